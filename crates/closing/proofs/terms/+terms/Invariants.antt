use Rattle.std.proofs.Common.{◌+◌, ◌*◌, max}
use Rattle.vocab.specs.Limits.{term_depth}
use Rattle.vocab.specs.Tree.{term_tree}
use Rattle.closing.proofs.terms.+terms.Given as goal

abbrev pub decreases-term : goal.decreases-term
decreases-term l = 3 * term_depth (term_tree l.given.now)

abbrev pub decreases-boxed : goal.decreases-boxed
decreases-boxed l = 3 * term_depth (term_tree l.given.now) + 1

abbrev pub decreases-three_terms : goal.decreases-three_terms
decreases-three_terms l = 3 * max (term_depth (term_tree l.first.now)) (max (term_depth (term_tree l.second.now)) (term_depth (term_tree l.third.now))) + 2
