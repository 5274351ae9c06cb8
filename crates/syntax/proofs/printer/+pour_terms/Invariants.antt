use Rattle.std.proofs.Common.{◌+◌, ◌*◌}
use Rattle.vocab.specs.NamedView.{named_term_tree, named_terms_tree}
use Rattle.vocab.specs.NamedDepth.{term_depth, terms_depth}
use Rattle.syntax.proofs.Texts.{ArePoured}
use Rattle.syntax.proofs.printer.+pour_terms.Given as goal

abbrev pub decreases-pour_call : goal.decreases-pour_call
decreases-pour_call g l = 3 * terms_depth (named_terms_tree l.arguments.now) + 2

abbrev pub decreases-pour_list : goal.decreases-pour_list
decreases-pour_list g l = 3 * terms_depth (named_terms_tree l.terms.now) + 1

abbrev pub decreases-pour_term : goal.decreases-pour_term
decreases-pour_term g l = 3 * term_depth (named_term_tree l.term.now)

-- the terms before the place were added
abbrev pub invariant-pour_list-loop-place : goal.invariant-pour_list-loop-place
invariant-pour_list-loop-place g l = ArePoured l.terms l.place (g.K.Sink.taken l.fn.out) (g.K.Sink.taken l.out) l.fn.page l.page (g.K.Sink.faults l.fn.out) (g.K.Sink.faults l.out)
