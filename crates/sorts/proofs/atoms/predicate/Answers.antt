use Rattle.std.proofs.Common.{◌≡◌, sym, ap, ◌∙◌, length}
use Rattle.vocab.specs.NamedView.{named_terms_tree}
use Rattle.sorts.specs.Faults.{argument_count}
use Rattle.sorts.specs.ScopeView.{scope_of}
use Rattle.sorts.specs.Symbols.{predicate_sorts, is_said_of}
use Rattle.sorts.proofs.Arguments.{count_of_terms}
use Rattle.sorts.proofs.Calls.{missaid, wrong_kind, arity_stops, said_visit}
use Rattle.sorts.proofs.atoms.predicate.Goals as goal

pub returns-then-len-arity : goal.returns-then-len-arity
returns-then-len-arity c =
    let known = sym c.predicate_named.ensures ∙ c.in-Some.is in
    let other : argument_count (named_terms_tree c.args.arguments.now) ≡ length (predicate_sorts c.in-Some.predicate) → ⊥ =
    λ e. c.if-len-arity.true (c.len.ensures ∙ sym (count_of_terms c.args.arguments.now) ∙ e ∙ sym c.arity.ensures) in
    λ memory. arity_stops c.args.name.now _ _ c.of-symbol.ensures (missaid _ _ _ _ known _ _ other)

pub returns-then-not-is_said_of : goal.returns-then-not-is_said_of
returns-then-not-is_said_of c =
    let known = sym c.predicate_named.ensures ∙ c.in-Some.is in
    let right : argument_count (named_terms_tree c.args.arguments.now) ≡ length (predicate_sorts c.in-Some.predicate) =
    count_of_terms c.args.arguments.now ∙ sym c.len.ensures ∙ c.if-len-arity.false ∙ c.arity.ensures in
    λ memory. wrong_kind _ c.args.name.now _ _ known _ _ _ c.of-symbol.ensures right
    (ap (λ k. is_said_of k c.in-Some.predicate) (sym (c.kind.ensures ∙ ap (λ s. s.kind) c.size-size.ensures)) ∙ sym c.is_said_of.ensures ∙ c.if-not-is_said_of.true)

pub returns : goal.returns
returns c =
    let known = sym c.predicate_named.ensures ∙ c.in-Some.is in
    let right : argument_count (named_terms_tree c.args.arguments.now) ≡ length (predicate_sorts c.in-Some.predicate) =
    count_of_terms c.args.arguments.now ∙ sym c.len.ensures ∙ c.if-len-arity.false ∙ c.arity.ensures in
    said_visit c.args.space.now (scope_of c.args.scope.now) c.args.name.now _ (named_terms_tree c.args.arguments.now) _ _ known c.of-symbol.ensures right
    (ap (λ k. is_said_of k c.in-Some.predicate) (sym (c.kind.ensures ∙ ap (λ s. s.kind) c.size-size.ensures)) ∙ sym c.is_said_of.ensures ∙ c.if-not-is_said_of.false)
    _ c.said.ensures
