use Rattle.std.proofs.Common.{◌≡◌, sym, ◌∙◌, ap, subst, ℕ, ◌<◌, ◌≤◌, not, filter, true, Bool}
use Rattle.std.specs.Prelude.{◌==◌}
use Rattle.std.specs.List.{list_all}
use Rattle.vocab.specs.declared.kinds.Sort.TheVariants.{Profile}
use Rattle.vocab.specs.Literal.{profile_of}
use Rattle.vocab.specs.Size.{Extent, sort_count, outcome_count}
use Rattle.meaning.specs.Literals.{is_literal}
use Rattle.meaning.specs.Truth.{holds_of}
use Rattle.meaning.proofs.ValueLoops.{any_next, any_holds}
use Rattle.worlds.proofs.ExclusionLemmas.{excluded_nowhere}
use Rattle.worlds.proofs.exclusion.excludes.Goals as goal

pub returns-then-p-count : goal.returns-then-p-count
returns-then-p-count g c =
    let size : Extent = g.K.OutcomeKind.size c.args.kind.now in
    let ours : list_all (is_literal size) c.args.board.now.literals ≡ true = subst (λ (e : Extent). list_all (is_literal e) c.args.board.now.literals ≡ true) c.requires c.as_slice-known.ensures.ours in
    sym (excluded_nowhere size c.kinds_have_sizes.ensures c.args.board.now.literals c.args.p ours (subst (λ (k : ℕ). k ≤ c.args.p) (c.count.ensures.value ∙ ap (λ (e : Extent). sort_count e Profile) c.space.ensures) c.if-p-count.true))

pub returns-then-allows : goal.returns-then-allows
returns-then-allows g c =
    let size : Extent = g.K.OutcomeKind.size c.args.kind.now in
    let fits : ℕ → Bool = λ o. list_all (holds_of size o) (filter (λ l. profile_of l == c.args.p) c.args.board.now.literals) in
    let within : c.loop-outcome.outcome < outcome_count size.kind size.alternatives = subst (λ (k : ℕ). c.loop-outcome.outcome < k) c.outcomes-outcome-end.ensures c.loop-outcome-test.true in
    sym (ap not (any_holds fits (outcome_count size.kind size.alternatives) c.loop-outcome.outcome within (sym c.allows.ensures ∙ c.if-allows.true)))

pub loop-outcome-preserved : goal.loop-outcome-preserved
loop-outcome-preserved g c =
    let size : Extent = g.K.OutcomeKind.size c.args.kind.now in
    let fits : ℕ → Bool = λ o. list_all (holds_of size o) (filter (λ l. profile_of l == c.args.p) c.args.board.now.literals) in
    any_next fits c.loop-outcome.outcome c.loop-outcome.invariant (sym c.allows.ensures ∙ c.if-allows.false)
