use Rattle.std.proofs.Common.{◌≤◌}
use Rattle.report.specs.Stands.{StandsForSome}
use Rattle.verdict_tests.proofs.report_tests.faultless_lines.Given as goal

abbrev pub invariant-loop-line : goal.invariant-loop-line
invariant-loop-line g l = (l.checker.progress.lines ≤ 101) × StandsForSome l.checker.subject.setting.study.now l.checker.progress
