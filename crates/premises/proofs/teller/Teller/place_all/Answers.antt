use Rattle.std.proofs.Common.{sym, ap, ◌∙◌, List, ◌++◌, [], ◌∷◌, take}
use Rattle.meaning.specs.declared.stories.StoryStep.{StoryStep}
use Rattle.premises.specs.SoFar.{unforced}
use Rattle.premises.proofs.StepLemmas.{unforced_more}
use Rattle.premises.proofs.teller.Teller.place_all.Goals as goal

pub loop-step-preserved : goal.loop-step-preserved
loop-step-preserved g c =
    let forced = c.args.self.now.forced.now.literals in
    let steps = c.args.steps.now in
    let item = c.step-item.result in
    c.in_ok-place.ensures
    ∙ ap (λ (ss : List StoryStep). ss ++ unforced forced (item ∷ [])) c.loop-step.invariant
    ∙ ap (λ (s : StoryStep). unforced forced (take c.loop-step.step-index steps) ++ unforced forced (s ∷ [])) c.step-item.is
    ∙ sym (unforced_more forced steps c.loop-step.step-index item c.loop-step-test.true)
