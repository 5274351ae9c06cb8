use Rattle.std.proofs.Common.{◌+◌, ◌*◌, max}
use Rattle.vocab.specs.NamedView.{named_tree}
use Rattle.vocab.specs.NamedDepth.{named_depth}
use Rattle.syntax.proofs.printer.+pour_formulas.Given as goal

abbrev pub decreases-pour_formula : goal.decreases-pour_formula
decreases-pour_formula g l = 2 * named_depth (named_tree l.formula.now)

abbrev pub decreases-pour_negation : goal.decreases-pour_negation
decreases-pour_negation g l = 2 * named_depth (named_tree l.inner.now) + 1

abbrev pub decreases-pour_quantified : goal.decreases-pour_quantified
decreases-pour_quantified g l = 2 * named_depth (named_tree l.inner.now) + 1

abbrev pub decreases-pour_group : goal.decreases-pour_group
decreases-pour_group g l = 2 * max (named_depth (named_tree l.left.now)) (named_depth (named_tree l.right.now)) + 1
