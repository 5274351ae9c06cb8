use Rattle.std.proofs.Common.{◌≡◌, true, take}
use Rattle.axiom_sets.specs.Sets.{is_within}
use Rattle.axiom_sets.proofs.sets.is_within.Given as goal

-- the places so far are of the other set
abbrev pub invariant-loop-place : goal.invariant-loop-place
invariant-loop-place l = is_within (take l.place-index l.set) l.other ≡ true
