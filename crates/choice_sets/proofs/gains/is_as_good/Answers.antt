use Rattle.std.proofs.Common.{◌||◌, ◌∙◌, ◌<◌, ℕ, Bool, ap, sym, subst, arith}
use Rattle.std.specs.Prelude.{◌==◌}
use Rattle.vocab.specs.Size.{Extent}
use Rattle.meaning.specs.Space.{prefers}
use Rattle.meaning.specs.Subsets.{is_element}
use Rattle.choice_sets.proofs.ElementLemmas.{few_sets}
use Rattle.choice_sets.proofs.KeptLemmas.{passed, left_out, fails}
use Rattle.choice_sets.proofs.gains.is_as_good.Goals as goal
use Rattle.choice_sets.proofs.gains.is_as_good.Goals.{else-is_element-via-then-is_element+else-not-is_same_or_above, else-is_element-via-else-is_element}

pub is_element-requires-clause-set : goal.is_element-requires-clause-set
is_element-requires-clause-set c = omega (arith, c.requires.set, few_sets c.args.at.now.space.now.alternatives c.spaces_have_sizes.ensures.few_alternatives)

pub returns-then-not-is_same_or_above : goal.returns-then-not-is_same_or_above
returns-then-not-is_same_or_above c =
    let size = c.args.at.now.space.now in
    let good : ℕ → Bool = λ x. c.args.y == x || prefers size c.args.at.now.voter c.args.y x c.args.at.now.profile in
    sym (fails good (is_element c.args.set) size.alternatives c.loop-x.x (subst (λ (n : ℕ). c.loop-x.x < n) (c.alternatives-x-end.ensures ∙ ap (λ (s : Extent). s.alternatives) c.size.ensures) c.loop-x-test.true) (sym c.is_element.ensures ∙ c.if-is_element.true) (sym c.is_same_or_above.ensures ∙ c.if-not-is_same_or_above.true))

pub loop-x-preserved : goal.loop-x-preserved
loop-x-preserved c =
    let size = c.args.at.now.space.now in
    let good : ℕ → Bool = λ x. c.args.y == x || prefers size c.args.at.now.voter c.args.y x c.args.at.now.profile in
    elim c.else-is_element.branch [
      | else-is_element-via-then-is_element+else-not-is_same_or_above w ↦ passed good (is_element c.args.set) c.loop-x.x c.loop-x.invariant (sym c.is_element.ensures ∙ w.if-is_element.true) (sym w.is_same_or_above.ensures ∙ w.if-not-is_same_or_above.false)
      | else-is_element-via-else-is_element w ↦ left_out good (is_element c.args.set) c.loop-x.x c.loop-x.invariant (sym c.is_element.ensures ∙ w.if-is_element.false)
    ]
