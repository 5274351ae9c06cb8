use Rattle.std.proofs.Common.{◌||◌, ◌∙◌, ◌<◌, ℕ, Bool, ap, sym, subst, arith}
use Rattle.std.specs.Prelude.{◌==◌}
use Rattle.std.specs.List.{list_all}
use Rattle.vocab.specs.Size.{Extent}
use Rattle.meaning.specs.Space.{prefers}
use Rattle.meaning.specs.Subsets.{elements, is_element}
use Rattle.choice_sets.proofs.ElementLemmas.{few_sets}
use Rattle.choice_sets.proofs.KeptLemmas.{passed, left_out, fails}
use Rattle.choice_sets.proofs.gains.are_as_good.Goals as goal
use Rattle.choice_sets.proofs.gains.are_as_good.Goals.{else-is_element-via-then-is_element+else-not-is_as_good, else-is_element-via-else-is_element}

pub is_element-requires-clause-set : goal.is_element-requires-clause-set
is_element-requires-clause-set c = omega (arith, c.requires.set, few_sets c.args.at.now.space.now.alternatives c.spaces_have_sizes.ensures.few_alternatives)

pub returns-then-not-is_as_good : goal.returns-then-not-is_as_good
returns-then-not-is_as_good c =
    let size = c.args.at.now.space.now in
    let good : ℕ → Bool = λ y. list_all (λ x. y == x || prefers size c.args.at.now.voter y x c.args.at.now.profile) (elements size.alternatives c.args.other) in
    sym (fails good (is_element c.args.set) size.alternatives c.loop-y.y (subst (λ (n : ℕ). c.loop-y.y < n) (c.alternatives-y-end.ensures ∙ ap (λ (s : Extent). s.alternatives) c.size.ensures) c.loop-y-test.true) (sym c.is_element.ensures ∙ c.if-is_element.true) (sym c.is_as_good.ensures ∙ c.if-not-is_as_good.true))

pub loop-y-preserved : goal.loop-y-preserved
loop-y-preserved c =
    let size = c.args.at.now.space.now in
    let good : ℕ → Bool = λ y. list_all (λ x. y == x || prefers size c.args.at.now.voter y x c.args.at.now.profile) (elements size.alternatives c.args.other) in
    elim c.else-is_element.branch [
      | else-is_element-via-then-is_element+else-not-is_as_good w ↦ passed good (is_element c.args.set) c.loop-y.y c.loop-y.invariant (sym c.is_element.ensures ∙ w.if-is_element.true) (sym w.is_as_good.ensures ∙ w.if-not-is_as_good.false)
      | else-is_element-via-else-is_element w ↦ left_out good (is_element c.args.set) c.loop-y.y c.loop-y.invariant (sym c.is_element.ensures ∙ w.if-is_element.false)
    ]
