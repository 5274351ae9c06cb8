use Rattle.std.proofs.Common.{rules, refl}
use Rattle.command_parts.specs.declared.studies.Opened.{Opened}
use Rattle.command_parts.specs.declared.answer.Answer.TheVariants as answer
use Rattle.command_parts.specs.declared.answer.Stop.TheVariants as stop
use Rattle.command_parts.proofs.PairLemmas.{second_judged, first_refused, first_stopped}
use Rattle.search_commands.proofs.AdoptionLemmas.{adopt_command, clauses_taken, adopted_rows, clauses_row, refused_row}
use Rattle.search_commands.proofs.adoption.adopt.Goals as goal

pub returns-in-Ok-Refused : goal.returns-in-Ok-Refused
returns-in-Ok-Refused g c =
    let told = g.S.Shelf.files c.args.shelf.now in
    let refuses = rw c.in-Ok-Refused.field-0-is at c.in-Ok-Refused.ensures.opened in
    first_refused _ c.args.study.now c.args.proof.now (adopt_command c.args.study.now c.args.proof.now c.args.crew.now.workers) told _ _ _ _ c.open_study.ensures.others
    c.in-Ok-Refused.answer refuses.bare refuses.has_text (refused_row told c.args.study.now c.args.proof.now c.in-Ok-Refused.answer refuses)

pub returns-in-Err : goal.returns-in-Err
returns-in-Err g c =
    first_stopped _ c.args.study.now c.args.proof.now (adopt_command c.args.study.now c.args.proof.now c.args.crew.now.workers) (g.S.Shelf.files c.args.shelf.now) _ _ _ _ c.open_study.ensures.others
    {T = Opened} c.in-Err.stop c.in-Err.ensures.fault

pub returns-in-Err-NoMemory : goal.returns-in-Err-NoMemory
returns-in-Err-NoMemory g c =
    first_stopped _ c.args.study.now c.args.proof.now (adopt_command c.args.study.now c.args.proof.now c.args.crew.now.workers) (g.S.Shelf.files c.args.shelf.now) _ _ _ _ c.open_study.ensures.others
    {T = Opened} stop.NoMemory (λ e. absurd (cc))

pub returns-in-Ok : goal.returns-in-Ok
returns-in-Ok g c =
    let told = g.S.Shelf.files c.args.shelf.now in
    let read = rw c.in-Ok-Study.field-0-is at c.in-Ok-Study.ensures.opened in
    let question = c.in-Ok-Study.whole.study in
    second_judged _ c.args.study.now c.args.proof.now (adopt_command c.args.study.now c.args.proof.now c.args.crew.now.workers)
    told _ (g.S.Shelf.left c.open_study.new.shelf) _ (g.S.Shelf.faults c.open_study.new.shelf) c.open_study.ensures.others _ _
    c.judge_proof.result (clauses_taken told c.args.study.now c.args.proof.now question read c.in-Ok.ensures.none) c.open_study.ensures.none_fell
    (adopted_rows told c.args.study.now c.args.proof.now question c.judge_proof.result read c.in-Ok.ensures.none (rw c.open_study.ensures.same at c.judge_proof.ensures.row))
    c.judge_proof.ensures.status c.judge_proof.ensures.has_text c.judge_proof.ensures.fault c.judge_proof.ensures.others

pub returns-in-Err-ground_study : goal.returns-in-Err-ground_study
returns-in-Err-ground_study g c =
    let told = g.S.Shelf.files c.args.shelf.now in
    let read = rw c.in-Ok-Study.field-0-is at c.in-Ok-Study.ensures.opened in
    first_refused _ c.args.study.now c.args.proof.now (adopt_command c.args.study.now c.args.proof.now c.args.crew.now.workers) told _ _ _ _ c.open_study.ensures.others
    (answer.NoClauses c.in-Ok-Study.whole.study c.in-Err-ground_study.fault) (record { ends = refl; no_verdict = refl; no_logs = refl; no_sharp = refl }) tt
    (clauses_row told c.args.study.now c.args.proof.now c.in-Ok-Study.whole.study c.in-Err-ground_study.fault read (λ e. search rules) c.in-Err-ground_study.ensures.fault)
