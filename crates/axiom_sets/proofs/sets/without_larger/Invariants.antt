use Rattle.std.proofs.Common.{◌≡◌, not, filter, take}
use Rattle.axiom_sets.specs.Sets.{is_within}
use Rattle.axiom_sets.proofs.sets.without_larger.Given as goal

-- of the sets so far those are kept within which this one does not lie
abbrev pub invariant-loop-other : goal.invariant-loop-other
invariant-loop-other l = l.kept.items ≡ filter (λ s. not (is_within l.set s)) (take l.other-index l.sets)
