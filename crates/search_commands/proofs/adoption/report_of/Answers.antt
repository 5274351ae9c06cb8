use Rattle.search_commands.proofs.AdoptionLemmas.{report_text}
use Rattle.search_commands.proofs.adoption.report_of.Goals as goal

pub returns-clause-has_text : goal.returns-clause-has_text
returns-clause-has_text g c =
    rw c.impossible-found.ensures.verdict (report_text c.args.whole.study c.args.lines.now c.args.adopted c.requires c.args.whole.reportable)
