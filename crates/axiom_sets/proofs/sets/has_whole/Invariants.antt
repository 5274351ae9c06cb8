use Rattle.std.proofs.Common.{◌≡◌, false, take}
use Rattle.axiom_sets.specs.Sets.{has_whole}
use Rattle.axiom_sets.proofs.sets.has_whole.Given as goal

-- the set lies within none of those so far
abbrev pub invariant-loop-other : goal.invariant-loop-other
invariant-loop-other l = has_whole (take l.other-index l.sets) l.set ≡ false
