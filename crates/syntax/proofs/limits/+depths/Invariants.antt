use Rattle.std.proofs.Common.{◌+◌, ◌*◌, ◌≤◌, take, map}
use Rattle.vocab.specs.Terms.{terms_of}
use Rattle.vocab.specs.NamedView.{named_term_tree, arguments_of}
use Rattle.vocab.specs.NamedDepth.{terms_depth}
use Rattle.syntax.proofs.limits.+depths.Given as goal

abbrev pub decreases-term_fits : goal.decreases-term_fits
decreases-term_fits l = 2 * l.most

abbrev pub decreases-terms_fit : goal.decreases-terms_fit
decreases-terms_fit l = 2 * l.most + 1

abbrev pub invariant-terms_fit-loop-place : goal.invariant-terms_fit-loop-place
invariant-terms_fit-loop-place l = terms_depth (arguments_of (map named_term_tree (take l.place (terms_of l.terms)))) ≤ l.most
