use Rattle.command_parts.specs.declared.studies.Opened.{Opened}
use Rattle.command_parts.proofs.PairLemmas.{second_judged, first_refused, first_stopped}
use Rattle.check_commands.proofs.CheckLemmas.{check_command, judged_rows, refused_row}
use Rattle.check_commands.proofs.check.check.Goals as goal
use Rattle.command_parts.proofs.OpenLemmas.{study_taken}

pub returns-in-Ok-Study : goal.returns-in-Ok-Study
returns-in-Ok-Study g c =
    let told = g.S.Shelf.files c.args.shelf.now in
    let read = rw c.in-Ok-Study.field-0-is at c.in-Ok-Study.ensures.opened in
    second_judged _ c.args.study.now c.args.report.now (check_command c.args.study.now c.args.report.now c.args.crew.now.workers)
    told _ (g.S.Shelf.left c.open_study.new.shelf) _ (g.S.Shelf.faults c.open_study.new.shelf) c.open_study.ensures.others _ _
    c.judge_report.result (study_taken told c.args.study.now c.in-Ok-Study.whole.study read) c.open_study.ensures.none_fell
    (judged_rows told c.args.study.now c.args.report.now c.in-Ok-Study.whole.study c.judge_report.result read (rw c.open_study.ensures.same at c.judge_report.ensures.judged))
    c.judge_report.ensures.status c.judge_report.ensures.has_text c.judge_report.ensures.fault c.judge_report.ensures.others

pub returns-in-Ok-Refused : goal.returns-in-Ok-Refused
returns-in-Ok-Refused g c =
    let told = g.S.Shelf.files c.args.shelf.now in
    let refuses = rw c.in-Ok-Refused.field-0-is at c.in-Ok-Refused.ensures.opened in
    first_refused _ c.args.study.now c.args.report.now (check_command c.args.study.now c.args.report.now c.args.crew.now.workers) told _ _ _ _ c.open_study.ensures.others
    c.in-Ok-Refused.answer refuses.bare refuses.has_text (refused_row told c.args.study.now c.args.report.now c.in-Ok-Refused.answer refuses)

pub returns-in-Err : goal.returns-in-Err
returns-in-Err g c =
    first_stopped _ c.args.study.now c.args.report.now (check_command c.args.study.now c.args.report.now c.args.crew.now.workers) (g.S.Shelf.files c.args.shelf.now) _ _ _ _ c.open_study.ensures.others
    {T = Opened} c.in-Err.stop c.in-Err.ensures.fault
