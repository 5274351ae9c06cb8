use Rattle.std.proofs.Common.{◌≡◌, ◌≤◌, ◌∙◌, sym, arith, [], ◌∷◌}
use Rattle.std.proofs.lemmas.Result.{err_from_is_err_and}
use Rattle.vocab.specs.NamedDepth.{term_depth, terms_depth}
use Rattle.vocab.specs.NamedView.{named_term_tree, named_terms_tree}
use Rattle.vocab.specs.Terms.{terms_of}
use Rattle.vocab.proofs.TermLemmas.{get_depth}
use Rattle.sorts.specs.Faults.{argument_count}
use Rattle.sorts.specs.ScopeView.{scope_of}
use Rattle.sorts.proofs.Calls.{called, miscalled, arity_stops, by_name, stops_at, applied_tree}
use Rattle.sorts.proofs.Arguments.{from_start, count_of_terms, argument_stops, later_stops, one_more_right, no_more, resolved_step, resolved_end}
use Rattle.sorts.proofs.terms.+terms.Goals as goal

pub call-returns-then-len-ne3 : goal.call-returns-then-len-ne3
call-returns-then-len-ne3 t c =
    let known = sym c.function_named.ensures ∙ c.in-Some.is in
    let count = count_of_terms c.args.arguments.now in
    λ memory. arity_stops c.args.name.now _ _ c.of-symbol.ensures (miscalled _ _ _ known _ _ (λ e. absurd (grind (arith, count, e, c.len.ensures, c.if-len-ne3.true))))

pub call-returns-in_err-terms : goal.call-returns-in_err-terms
call-returns-in_err-terms t c =
    let known = sym c.function_named.ensures ∙ c.in-Some.is in
    let count = count_of_terms c.args.arguments.now in
    let three : argument_count (named_terms_tree c.args.arguments.now) ≡ 3 = grind (arith, count, c.len.ensures, c.if-len-ne3.false) in
    let p = err_from_is_err_and c.from_residual.result c.from_residual.ensures.1 in
    rw (p.1, p.2)
    (stops_at _ _ _ (called c.args.name.now _ _ known _ _ three ∙ by_name c.args.space.now (scope_of c.args.scope.now) c.args.name.now _ _ _ _ c.of-symbol.ensures c.sorts.ensures) c.in_err-terms.ensures)

pub call-returns : goal.call-returns
call-returns t c =
    let known = sym c.function_named.ensures ∙ c.in-Some.is in
    let count = count_of_terms c.args.arguments.now in
    let three : argument_count (named_terms_tree c.args.arguments.now) ≡ 3 = grind (arith, count, c.len.ensures, c.if-len-ne3.false) in (
      called c.args.name.now _ _ known _ _ three ∙ by_name c.args.space.now (scope_of c.args.scope.now) c.args.name.now _ _ _ _ c.of-symbol.ensures c.sorts.ensures ∙ c.in_ok-terms.ensures.0,
      c.in_ok-apply.ensures ∙ sym (applied_tree _ _ _ _ _ _ known c.in_ok-terms.ensures.1),
    )

pub three_arguments-argument-requires : goal.three_arguments-argument-requires
three_arguments-argument-requires t c =
    let d : term_depth (named_term_tree c.get.result.now) ≤ terms_depth (named_terms_tree c.args.arguments.now) = get_depth _ _ _ c.get.ensures in
    (omega (arith, d, c.decreases), c.requires.few)

pub three_arguments-argument-requires-2 : goal.three_arguments-argument-requires-2
three_arguments-argument-requires-2 t c =
    let d : term_depth (named_term_tree c.get-2.result.now) ≤ terms_depth (named_terms_tree c.args.arguments.now) = get_depth _ _ _ c.get-2.ensures in
    (omega (arith, d, c.decreases), c.requires.few)

pub three_arguments-argument-requires-3 : goal.three_arguments-argument-requires-3
three_arguments-argument-requires-3 t c =
    let d : term_depth (named_term_tree c.get-3.result.now) ≤ terms_depth (named_terms_tree c.args.arguments.now) = get_depth _ _ _ c.get-3.ensures in
    (omega (arith, d, c.decreases), c.requires.few)

pub three_arguments-returns-in_err-first : goal.three_arguments-returns-in_err-first
three_arguments-returns-in_err-first t c =
    let xs = terms_of c.args.arguments.now in
    let p = err_from_is_err_and c.from_residual.result c.from_residual.ensures.1 in
    rw (p.1, p.2, from_start) (argument_stops _ _ _ _ xs 0 1 _ (c.args.sorts.1 ∷ c.args.sorts.2 ∷ []) _ c.get.ensures c.in_err-first.ensures)

pub three_arguments-returns-in_err-second : goal.three_arguments-returns-in_err-second
three_arguments-returns-in_err-second t c =
    let xs = terms_of c.args.arguments.now in
    let p = err_from_is_err_and c.from_residual-in_err-second.result c.from_residual-in_err-second.ensures.1 in
    rw (p.1, p.2, from_start)
    (later_stops _ _ _ _ xs 0 1 _ (c.args.sorts.1 ∷ c.args.sorts.2 ∷ []) _ c.get.ensures c.in_ok-first.ensures.0
    (argument_stops _ _ _ _ xs 1 2 _ (c.args.sorts.2 ∷ []) _ c.get-2.ensures c.in_err-second.ensures))

pub three_arguments-returns-in_err-third : goal.three_arguments-returns-in_err-third
three_arguments-returns-in_err-third t c =
    let xs = terms_of c.args.arguments.now in
    let p = err_from_is_err_and c.from_residual-in_err-third.result c.from_residual-in_err-third.ensures.1 in
    rw (p.1, p.2, from_start)
    (later_stops _ _ _ _ xs 0 1 _ (c.args.sorts.1 ∷ c.args.sorts.2 ∷ []) _ c.get.ensures c.in_ok-first.ensures.0
    (later_stops _ _ _ _ xs 1 2 _ (c.args.sorts.2 ∷ []) _ c.get-2.ensures c.in_ok-second.ensures.0
    (argument_stops _ _ _ _ xs 2 3 _ [] _ c.get-3.ensures c.in_err-third.ensures)))

pub three_arguments-returns : goal.three_arguments-returns
three_arguments-returns t c =
    let xs = terms_of c.args.arguments.now in
    rw from_start (
      one_more_right _ _ _ xs 0 1 _ (c.args.sorts.1 ∷ c.args.sorts.2 ∷ []) _ c.get.ensures c.in_ok-first.ensures.0
          (one_more_right _ _ _ xs 1 2 _ (c.args.sorts.2 ∷ []) _ c.get-2.ensures c.in_ok-second.ensures.0
          (one_more_right _ _ _ xs 2 3 _ [] _ c.get-3.ensures c.in_ok-third.ensures.0 (no_more _ _ _ xs 3 4))),
      resolved_step _ _ xs 0 _ _ _ c.get.ensures c.in_ok-first.ensures.1
          (resolved_step _ _ xs 1 _ _ _ c.get-2.ensures c.in_ok-second.ensures.1
          (resolved_step _ _ xs 2 _ _ _ c.get-3.ensures c.in_ok-third.ensures.1 (resolved_end _ _ xs 3 c.requires.count))),
    )
