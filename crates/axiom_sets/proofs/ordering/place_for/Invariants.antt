use Rattle.std.proofs.Common.{◌≡◌, true, take}
use Rattle.std.specs.List.{list_all}
use Rattle.axiom_sets.specs.Sets.{is_before}
use Rattle.axiom_sets.proofs.ordering.place_for.Given as goal

-- the sets so far come before this one
abbrev pub invariant-loop-place : goal.invariant-loop-place
invariant-loop-place l = list_all (λ s. is_before s l.set) (take l.place l.sets) ≡ true
