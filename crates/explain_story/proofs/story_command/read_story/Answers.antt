use Rattle.explain_story.proofs.StoryLemmas.{told_reply, reply_low, reply_has_text}
use Rattle.explain_story.proofs.story_command.read_story.Goals as goal

pub returns-clause-told : goal.returns-clause-told
returns-clause-told g c = λ files e.
    told_reply c.args.whole.now.study c.args.name.now c.args.report.now (g.S.Shelf.files c.args.shelf.now) c.in_ok-reading.reading c.in_ok-reply.reply c.in_ok-reading.ensures.read c.in_ok-reply.ensures files e

pub returns-clause-status : goal.returns-clause-status
returns-clause-status g c = reply_low c.args.whole.now.study c.args.name.now c.args.report.now c.in_ok-reading.reading c.in_ok-reply.reply c.in_ok-reply.ensures

pub returns-clause-has_text : goal.returns-clause-has_text
returns-clause-has_text g c = reply_has_text c.args.whole.now.study c.args.name.now c.args.report.now c.in_ok-reading.reading c.in_ok-reply.reply c.in_ok-reply.ensures
