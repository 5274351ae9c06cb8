use Rattle.std.proofs.Common.{◌≡◌, drop}
use Rattle.std.specs.Prelude.{nat_eq}
use Rattle.std.specs.List.{list_any}
use Rattle.lanes.proofs.covers.has.Given as goal

-- the level is among all just where it is among those that are left
abbrev pub invariant-loop-k : goal.invariant-loop-k
invariant-loop-k l = list_any (nat_eq l.level) l.levels ≡ list_any (nat_eq l.level) (drop l.k l.levels)
