use Rattle.std.proofs.Common.{◌≡◌, filter}
use Rattle.meaning.specs.Space.{below}
use Rattle.sharp_verdicts.specs.Instances.{is_axiom_told}
use Rattle.told_instances.proofs.telling.axioms_told.Given as goal

abbrev pub invariant-loop-k : goal.invariant-loop-k
invariant-loop-k l = l.core ≡ filter (is_axiom_told l.story) (below l.k)
