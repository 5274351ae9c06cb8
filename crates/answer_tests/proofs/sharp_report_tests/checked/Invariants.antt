use Rattle.std.proofs.Common.{◌≡◌, ◌+◌}
use Rattle.sharp_report.specs.SharpStands.{IsSharpReady}
use Rattle.answer_tests.proofs.sharp_report_tests.checked.Given as goal

abbrev pub invariant-loop-number : goal.invariant-loop-number
invariant-loop-number g l = IsSharpReady l.checker.subject.setting.study.now l.checker.progress × (l.checker.progress.lines + 1 ≡ l.number)
