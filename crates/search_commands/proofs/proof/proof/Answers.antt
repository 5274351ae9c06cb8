use Rattle.command_parts.proofs.StudyLemmas.{study_answer, refused_study, stopped_study}
use Rattle.search_commands.proofs.ProofLemmas.{proof_command}
use Rattle.search_commands.proofs.proof.proof.Goals as goal

pub returns-in-Ok-Study : goal.returns-in-Ok-Study
returns-in-Ok-Study g c =
    study_answer _ c.args.study.now _ (proof_command c.args.study.now c.args.crew.now.workers) (g.S.Shelf.files c.args.shelf.now) _ _ _ _ c.open_study.ensures.others
    c.in-Ok-Study.whole.study c.prove_study.result (rw c.in-Ok-Study.field-0-is at c.in-Ok-Study.ensures.opened)
    c.prove_study.ensures.row c.prove_study.ensures.has_text c.prove_study.ensures.read

pub returns-in-Ok-Refused : goal.returns-in-Ok-Refused
returns-in-Ok-Refused g c =
    refused_study _ c.args.study.now _ (proof_command c.args.study.now c.args.crew.now.workers) (g.S.Shelf.files c.args.shelf.now) _ _ _ _ c.open_study.ensures.others
    c.in-Ok-Refused.answer (rw c.in-Ok-Refused.field-0-is at c.in-Ok-Refused.ensures.opened)

pub returns-in-Err : goal.returns-in-Err
returns-in-Err g c =
    stopped_study _ c.args.study.now _ (proof_command c.args.study.now c.args.crew.now.workers) (g.S.Shelf.files c.args.shelf.now) _ _ _ _ c.open_study.ensures.others
    c.in-Err.stop c.in-Err.ensures.fault
