use Rattle.command_parts.specs.declared.studies.Opened.{Opened}
use Rattle.explain_story.proofs.StoryLemmas.{story_rows, report_read, study_refuses, study_stops}
use Rattle.explain_story.proofs.story_command.story.Goals as goal
use Rattle.command_parts.proofs.OpenLemmas.{study_taken}

pub returns-in-Ok-Study : goal.returns-in-Ok-Study
returns-in-Ok-Study g c =
    let told = g.S.Shelf.files c.args.shelf.now in
    let name = c.args.study.now in
    let report = c.args.report.now in
    let workers = c.args.crew.now.workers in
    let read = rw c.in-Ok-Study.field-0-is at c.in-Ok-Study.ensures.opened in
    report_read name report workers told _ (g.S.Shelf.left c.open_study.new.shelf) _ (g.S.Shelf.faults c.open_study.new.shelf) c.open_study.ensures.others _ _
    c.read_story.result (study_taken told name c.in-Ok-Study.whole.study read) c.open_study.ensures.none_fell
    (story_rows name report workers told c.in-Ok-Study.whole.study c.read_story.result read (rw c.open_study.ensures.same at c.read_story.ensures.told))
    c.read_story.ensures.status c.read_story.ensures.has_text c.read_story.ensures.fault c.read_story.ensures.others

pub returns-in-Ok-Refused : goal.returns-in-Ok-Refused
returns-in-Ok-Refused g c =
    let told = g.S.Shelf.files c.args.shelf.now in
    study_refuses c.args.study.now c.args.report.now c.args.crew.now.workers told _ _ _ _ c.open_study.ensures.others
    c.in-Ok-Refused.answer (rw c.in-Ok-Refused.field-0-is at c.in-Ok-Refused.ensures.opened)

pub returns-in-Err : goal.returns-in-Err
returns-in-Err g c =
    study_stops c.args.study.now c.args.report.now c.args.crew.now.workers (g.S.Shelf.files c.args.shelf.now) _ _ _ _ c.open_study.ensures.others
    {T = Opened} c.in-Err.stop c.in-Err.ensures.fault
