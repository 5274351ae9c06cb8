use Rattle.std.proofs.Common.{◌≡◌}
use Rattle.axiom_sets.specs.Next.{goes_beyond}
use Rattle.axiom_sets.proofs.asking.goes_beyond.Given as goal

-- the clause so far has the axioms so far that are none of the set
abbrev pub invariant-loop-place : goal.invariant-loop-place
invariant-loop-place l = l.clause.items ≡ goes_beyond l.place l.set
