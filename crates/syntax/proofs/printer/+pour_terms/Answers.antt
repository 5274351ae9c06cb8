use Rattle.std.proofs.Common.{arith, ◌≤◌, [], ◌∷◌, codes}
use Rattle.vocab.specs.NamedView.{named_term_tree, named_terms_tree}
use Rattle.syntax.specs.Canonical.{list_text}
use Rattle.vocab.specs.NamedDepth.{term_depth, terms_depth}
use Rattle.vocab.proofs.TermLemmas.{get_depth}
use Rattle.syntax.proofs.Pouring.{cut, goes_on}
use Rattle.syntax.proofs.Texts.{list_begins, list_goes_on, list_ends, list_stops_first, list_stops_comma, list_stops_next, empty_list}
use Rattle.syntax.proofs.printer.+pour_terms.Goals as goal

pub pour_call-returns-in_err-pour : goal.pour_call-returns-in_err-pour
pour_call-returns-in_err-pour g t c = cut c.from_residual.result (list_text (named_terms_tree c.args.arguments.now) ∷ codes ")" ∷ []) c.from_residual.ensures.0 (rw c.bytes.ensures at c.in_err-pour.ensures)

pub pour_call-returns-in_err-pour_list : goal.pour_call-returns-in_err-pour_list
pour_call-returns-in_err-pour_list g t c = cut c.from_residual-in_err-pour_list.result (codes ")" ∷ []) c.from_residual-in_err-pour_list.ensures.0 (goes_on (rw c.bytes.ensures at c.in_ok-pour.ensures) c.in_err-pour_list.ensures)

pub pour_call-returns : goal.pour_call-returns
pour_call-returns g t c = goes_on (goes_on (rw c.bytes.ensures at c.in_ok-pour.ensures) c.in_ok-pour_list.ensures) c.put.ensures

pub pour_list-pour_term-requires : goal.pour_list-pour_term-requires
pour_list-pour_term-requires g t c κs within =
    let d : term_depth (named_term_tree c.get.result.now) ≤ terms_depth (named_terms_tree c.args.terms.now) = get_depth _ _ _ c.get.ensures in
    (omega arith, within)

pub pour_list-pour_term-requires-in-loop-place : goal.pour_list-pour_term-requires-in-loop-place
pour_list-pour_term-requires-in-loop-place g t c κs within =
    let d : term_depth (named_term_tree c.get-term.result.now) ≤ terms_depth (named_terms_tree c.args.terms.now) = get_depth _ _ _ c.get-term.ensures in
    (omega arith, within)

pub pour_list-returns-then-len-eq0 : goal.pour_list-returns-then-len-eq0
pour_list-returns-then-len-eq0 g t c = empty_list _ _ _ _ _ (omega arith)

pub pour_list-returns-in_err-pour_term : goal.pour_list-returns-in_err-pour_term
pour_list-returns-in_err-pour_term g t c = list_stops_first _ _ _ _ _ _ _ _ c.get.ensures _ c.from_residual.result c.from_residual.ensures.0 c.in_err-pour_term.ensures

pub pour_list-loop-place-init : goal.pour_list-loop-place-init
pour_list-loop-place-init g t c = list_begins _ _ _ _ _ _ _ _ c.get.ensures _ c.in_ok-pour_term.ensures

pub pour_list-returns-in_err-put : goal.pour_list-returns-in_err-put
pour_list-returns-in_err-put g t c = list_stops_comma _ _ _ _ _ _ _ _ _ c.loop-place.invariant c.get-term.ensures _ _ _ _ c.from_residual-in_err-put.result c.from_residual-in_err-put.ensures.0 c.in_err-put.ensures

pub pour_list-returns-in_err-pour_term-2 : goal.pour_list-returns-in_err-pour_term-2
pour_list-returns-in_err-pour_term-2 g t c = list_stops_next _ _ _ _ _ _ _ _ _ c.loop-place.invariant c.get-term.ensures _ _ _ _ c.in_ok-put.ensures _ _ _ _ c.from_residual-in_err-pour_term-2.result c.from_residual-in_err-pour_term-2.ensures.0 c.in_err-pour_term-2.ensures

pub pour_list-loop-place-preserved : goal.pour_list-loop-place-preserved
pour_list-loop-place-preserved g t c = list_goes_on _ _ _ _ _ _ _ _ _ c.loop-place.invariant c.get-term.ensures _ _ _ _ c.in_ok-put.ensures _ _ _ _ c.in_ok-pour_term-2.ensures

pub pour_list-returns : goal.pour_list-returns
pour_list-returns g t c = list_ends _ _ _ _ _ _ _ _ _ c.loop-place.invariant (omega arith)
