use Rattle.check_commands.proofs.CheckLemmas.{judged_file, judged_low}
use Rattle.check_commands.proofs.check.judge_report.Goals as goal

pub returns-clause-judged : goal.returns-clause-judged
returns-clause-judged g c = judged_file (g.S.Shelf.files c.args.shelf.now) c.args.whole.now.study c.args.report.now c.in_ok-worth.worth c.in_ok-worth.ensures.worth

pub returns-clause-status : goal.returns-clause-status
returns-clause-status g c = judged_low c.in_ok-worth.worth
