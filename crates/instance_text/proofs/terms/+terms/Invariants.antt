use Rattle.std.proofs.Common.{◌+◌, ◌*◌, max}
use Rattle.vocab.specs.Limits.{term_depth}
use Rattle.vocab.specs.Tree.{term_tree}
use Rattle.instance_text.proofs.terms.+terms.Given as goal

abbrev pub decreases-put_term : goal.decreases-put_term
decreases-put_term l = 3 * term_depth (term_tree l.given.now)

abbrev pub decreases-put_first : goal.decreases-put_first
decreases-put_first l = 3 * term_depth (term_tree l.given.now) + 1

abbrev pub decreases-put_next : goal.decreases-put_next
decreases-put_next l = 3 * term_depth (term_tree l.given.now) + 1

abbrev pub decreases-put_three : goal.decreases-put_three
decreases-put_three l = 3 * max (term_depth (term_tree l.first.now)) (max (term_depth (term_tree l.second.now)) (term_depth (term_tree l.third.now))) + 2
