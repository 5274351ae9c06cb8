use Rattle.std.proofs.Common.{◌+◌, ◌*◌, max}
use Rattle.vocab.specs.NamedDepth.{named_depth}
use Rattle.vocab.specs.NamedView.{named_tree}
use Rattle.sorts.proofs.formulas.+formulas.Given as goal

abbrev pub decreases-formula : goal.decreases-formula
decreases-formula l = 3 * named_depth (named_tree l.named.now)

abbrev pub decreases-two_formulas : goal.decreases-two_formulas
decreases-two_formulas l = 3 * max (named_depth (named_tree l.left.now)) (named_depth (named_tree l.right.now)) + 2

abbrev pub decreases-boxed_formula : goal.decreases-boxed_formula
decreases-boxed_formula l = 3 * named_depth (named_tree l.named.now) + 1
