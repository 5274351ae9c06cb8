use Rattle.std.proofs.Common.{take}
use Rattle.lanes.specs.Lanes.{AreBelow}
use Rattle.lanes.proofs.building.inner_values.Given as goal

abbrev pub invariant-loop-k : goal.invariant-loop-k
invariant-loop-k l = AreBelow l.values (take l.k l.counts)
