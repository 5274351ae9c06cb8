use Rattle.std.proofs.Common.{◌≡◌, take}
use Rattle.axiom_sets.specs.Next.{lacks_some}
use Rattle.axiom_sets.proofs.asking.lacks_some.Given as goal

-- the clause so far has the axioms so far
abbrev pub invariant-loop-place : goal.invariant-loop-place
invariant-loop-place l = l.clause.items ≡ lacks_some (take l.place-index l.set)
