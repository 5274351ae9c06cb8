use Rattle.explain_story.proofs.story_command.reply_to.Goals as goal

pub make_page-requires : goal.make_page-requires
make_page-requires c = record { right = (c.requires.report c.in-Confirmed.verdict c.in-Confirmed.is).1.right }

pub make_sharp_page-requires : goal.make_sharp_page-requires
make_sharp_page-requires c = record { right = (c.requires.sharp c.in-SharpConfirmed.sharp c.in-SharpConfirmed.is).1.right }
