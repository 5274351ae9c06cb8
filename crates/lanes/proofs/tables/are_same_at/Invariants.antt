use Rattle.std.proofs.Common.{drop}
use Rattle.lanes.specs.Lanes.{AreSameAt}
use Rattle.lanes.proofs.tables.are_same_at.Given as goal

-- where the values are the same at the levels that are left, they are at all
abbrev pub invariant-loop-k : goal.invariant-loop-k
invariant-loop-k l = AreSameAt (drop l.k l.levels) l.a l.b → AreSameAt l.levels l.a l.b
