use Rattle.std.proofs.Common.{◌≡◌, drop}
use Rattle.sharp_report.proofs.FailingLemmas.{fault_from}
use Rattle.sharp_report.proofs.failing.first_failing.Given as goal

-- the fault is that of the instances that are left
abbrev pub invariant-loop-cited : goal.invariant-loop-cited
invariant-loop-cited g l = fault_from l.study l.table l.left_out l.instances ≡ fault_from l.study l.table l.left_out (drop l.cited-index l.instances)
