use Rattle.std.proofs.Common.{◌≡◌, ap, ◌∙◌, get_or}
use Rattle.meaning.specs.declared.stories.StoryStep.{StoryStep}
use Rattle.verdicts.specs.Report.{step_line}
use Rattle.report_text.specs.Pieces.{ended_line}
use Rattle.report_text.proofs.LineLemmas.{so_text}
use Rattle.texts.proofs.LoopLemmas.{spelled_stops, spelled_goes_on}
use Rattle.report_text.proofs.lines.StepsText.pour.Goals as goal

pub returns-in_err-pour : goal.returns-in_err-pour
returns-in_err-pour g c =
    let of = c.args.self.now.of in
    let here : c.step-item.result ≡ get_or c.args.self.now.steps.now c.loop-step.step-index c.step-item.result = c.step-item.is in
    spelled_stops (λ _ x. ended_line of.study.now (step_line x)) c.args.self.now.steps.now 0 c.loop-step.step-index c.step-item.result _ _ _ _ _ _ c.loop-step.invariant _ _ _ c.in_err-pour.field-0.0 c.from_residual.result _ c.loop-step-test.true
    (so_text of.study.now of.space.now of.same c.step-item.result.literal c.step-item.result.reason ∙ ap (λ (x : StoryStep). ended_line of.study.now (step_line x)) here) c.from_residual.ensures.0 c.in_err-pour.ensures

pub loop-step-preserved : goal.loop-step-preserved
loop-step-preserved g c =
    let of = c.args.self.now.of in
    let here : c.step-item.result ≡ get_or c.args.self.now.steps.now c.loop-step.step-index c.step-item.result = c.step-item.is in
    spelled_goes_on (λ _ x. ended_line of.study.now (step_line x)) c.args.self.now.steps.now 0 c.loop-step.step-index c.step-item.result _ _ _ _ _ _ c.loop-step.invariant _ _ _ c.in_ok-pour.field-0 _ c.loop-step-test.true
    (so_text of.study.now of.space.now of.same c.step-item.result.literal c.step-item.result.reason ∙ ap (λ (x : StoryStep). ended_line of.study.now (step_line x)) here) c.in_ok-pour.ensures
