use Rattle.std.proofs.Common.{◌≡◌, false, take}
use Rattle.search_logs.specs.Spent.{has_place}
use Rattle.axiom_sets.proofs.sets.has_place.Given as goal

-- none of the places so far is this one
abbrev pub invariant-loop-other : goal.invariant-loop-other
invariant-loop-other l = has_place (take l.other-index l.set) l.place ≡ false
