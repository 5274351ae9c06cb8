use Rattle.std.proofs.Common.{◌+◌, ◌*◌}
use Rattle.vocab.specs.NamedDepth.{term_depth, terms_depth}
use Rattle.vocab.specs.NamedView.{named_term_tree, named_terms_tree}
use Rattle.sorts.proofs.terms.+terms.Given as goal

abbrev pub decreases-term : goal.decreases-term
decreases-term l = 4 * term_depth (named_term_tree l.named.now)

abbrev pub decreases-call : goal.decreases-call
decreases-call l = 4 * terms_depth (named_terms_tree l.arguments.now) + 3

abbrev pub decreases-three_arguments : goal.decreases-three_arguments
decreases-three_arguments l = 4 * terms_depth (named_terms_tree l.arguments.now) + 2

abbrev pub decreases-argument : goal.decreases-argument
decreases-argument l = 4 * term_depth (named_term_tree l.given.now) + 1
