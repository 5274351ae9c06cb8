use Rattle.std.proofs.Common.{◌≡◌, ◌++◌, take}
use Rattle.lanes.proofs.building.joined.Given as goal

abbrev pub invariant-loop-k : goal.invariant-loop-k
invariant-loop-k l = l.all ≡ l.env ++ take l.k l.more
