use Rattle.std.proofs.Common.{◌+◌, ◌*◌, max}
use Rattle.vocab.specs.Limits.{depth}
use Rattle.vocab.specs.Tree.{tree_of}
use Rattle.closing.proofs.formulas.+formulas.Given as goal

abbrev pub decreases-formula : goal.decreases-formula
decreases-formula l = 3 * depth (tree_of l.given.now)

abbrev pub decreases-boxed_formula : goal.decreases-boxed_formula
decreases-boxed_formula l = 3 * depth (tree_of l.given.now) + 1

abbrev pub decreases-two_formulas : goal.decreases-two_formulas
decreases-two_formulas l = 3 * max (depth (tree_of l.left.now)) (depth (tree_of l.right.now)) + 2
