use Rattle.std.proofs.Common.{◌+◌, ◌*◌, max}
use Rattle.vocab.specs.Limits.{depth}
use Rattle.vocab.specs.Tree.{tree_of}
use Rattle.instance_text.proofs.formulas.+formulas.Given as goal

abbrev pub decreases-put_formula : goal.decreases-put_formula
decreases-put_formula l = 2 * depth (tree_of l.given.now)

abbrev pub decreases-put_negation : goal.decreases-put_negation
decreases-put_negation l = 2 * depth (tree_of l.inner.now) + 1

abbrev pub decreases-put_group : goal.decreases-put_group
decreases-put_group l = 2 * max (depth (tree_of l.left.now)) (depth (tree_of l.right.now)) + 1

abbrev pub decreases-put_quantified : goal.decreases-put_quantified
decreases-put_quantified l = 2 * depth (tree_of l.inner.now) + 1
