use Rattle.search_commands.proofs.DecideLemmas.{reported, reported_text}
use Rattle.search_commands.proofs.decide.report_of.Goals as goal

pub returns-clause-reported : goal.returns-clause-reported
returns-clause-reported g c =
    reported c.args.whole.study c.in_ok-found.found.logs c.in_ok-found.found.verdict c.in_ok-found.ensures.right (rw c.in_ok-found.ensures.logs c.requires.logs)

pub returns-clause-has_text : goal.returns-clause-has_text
returns-clause-has_text g c = reported_text c.args.whole.study c.in_ok-found.found.logs c.in_ok-found.found.verdict c.args.whole.reportable c.in_ok-found.ensures.right
