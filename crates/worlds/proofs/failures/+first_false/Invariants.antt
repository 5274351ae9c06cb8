use Rattle.vocab.specs.Limits.{instance_count}
use Rattle.vocab.specs.Tree.{tree_of}
use Rattle.worlds.proofs.WalkLemmas.{AreTrueBefore}
use Rattle.worlds.proofs.failures.+first_false.Given as goal

abbrev pub decreases-first_false : goal.decreases-first_false
decreases-first_false g l = goal.size-first_false g l

abbrev pub invariant-loop-value : goal.invariant-loop-value
invariant-loop-value g l = AreTrueBefore l.space l.rule.table.now (tree_of l.formula) l.env l.from l.to (instance_count l.space (tree_of l.inner.value)) l.value
