use Rattle.std.proofs.Common.{◌≡◌, sym, subst, Bool, List, true}
use Rattle.std.proofs.lemmas.Bool.{and_parts}
use Rattle.std.specs.List.{list_all}
use Rattle.lists.proofs.TestLaws.{all_read}
use Rattle.meaning.specs.declared.stories.StoryStep.{StoryStep}
use Rattle.meaning.specs.Literals.{is_literal}
use Rattle.story.proofs.lemmas.CheckableLemma.take_steps.Goals as goal

pub take_step-requires-clause-literal : goal.take_step-requires-clause-literal
take_step-requires-clause-literal g c κs within =
    let size = g.K.OutcomeKind.size c.args.self.now.grounds.now.setting.now.kind.now in
    let right : StoryStep → Bool = λ step. is_literal size step.literal in
    let parts = and_parts (list_all (is_literal size) c.args.self.now.lemma.now.suppose) (list_all right c.args.self.now.lemma.now.steps) c.args.self.now.literals in
    let all = subst (λ (steps : List StoryStep). list_all right steps ≡ true) (sym c.as_slice-steps.ensures) parts.1 in
    subst (λ (step : StoryStep). right step ≡ true) (sym c.step-item.is) (all_read right c.as_slice-steps.result.now c.loop-step.step-index c.step-item.result c.loop-step-test.true all)
