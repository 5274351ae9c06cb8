use Rattle.explain_parts.proofs.StudyReplies.{study_reply, refused_study, stopped_study}
use Rattle.explain_commands.proofs.RulesReplies.{rules_command}
use Rattle.explain_commands.proofs.rules_command.rules.Goals as goal

pub returns-in-Ok-Study : goal.returns-in-Ok-Study
returns-in-Ok-Study g c =
    study_reply _ _ _ (rules_command c.args.study.now c.args.most c.args.crew.now.workers) (g.S.Shelf.files c.args.shelf.now) _ _ _ _ c.open_study.ensures.others
    c.in-Ok-Study.whole.study c.list_study.result (rw c.in-Ok-Study.field-0-is at c.in-Ok-Study.ensures.opened) c.list_study.ensures.row c.list_study.ensures.has_text c.list_study.ensures.read

pub returns-in-Ok-Refused : goal.returns-in-Ok-Refused
returns-in-Ok-Refused g c =
    refused_study _ _ _ (rules_command c.args.study.now c.args.most c.args.crew.now.workers) (g.S.Shelf.files c.args.shelf.now) _ _ _ _ c.open_study.ensures.others
    c.in-Ok-Refused.answer (rw c.in-Ok-Refused.field-0-is at c.in-Ok-Refused.ensures.opened)

pub returns-in-Err : goal.returns-in-Err
returns-in-Err g c =
    stopped_study _ _ _ (rules_command c.args.study.now c.args.most c.args.crew.now.workers) (g.S.Shelf.files c.args.shelf.now) _ _ _ _ c.open_study.ensures.others
    c.in-Err.stop c.in-Err.ensures.fault
