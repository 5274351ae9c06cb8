use Rattle.std.proofs.Common.{◌≡◌, sym, ap, ◌∙◌, subst, true, List, take}
use Rattle.lists.proofs.TestLaws.{all_read}
use Rattle.vocab.specs.declared.literals.Literal.{Literal}
use Rattle.meaning.specs.declared.stories.StoryStep.{StoryStep}
use Rattle.meaning.specs.Literals.{is_literal}
use Rattle.tellings.specs.Tellings.{forced_by, forced_with}
use Rattle.premises.proofs.ForcedLemmas.{steps_next}
use Rattle.premises.proofs.forced.Gathered.take_all.Goals as goal

pub take-requires-clause-literal : goal.take-requires-clause-literal
take-requires-clause-literal g c = λ κs out.
    let size = g.K.OutcomeKind.size c.args.grounds.now.setting.now.kind.now in
    subst (λ (step : StoryStep). is_literal size step.literal ≡ true) (sym c.step-item.is)
    (all_read (λ (step : StoryStep). is_literal size step.literal) c.args.steps.now c.loop-step.step-index c.step-item.result c.loop-step-test.true c.requires.literals)

pub loop-step-preserved : goal.loop-step-preserved
loop-step-preserved g c =
    let size = g.K.OutcomeKind.size c.args.grounds.now.setting.now.kind.now in
    let axioms = c.args.grounds.now.setting.now.study.now.axioms in
    let core = c.args.grounds.now.core.now in
    let earlier = c.args.grounds.now.lemmas.now in
    let facts = c.args.self.now.board.literals in
    record {
      tried = c.in_ok-take.ensures.tried ∙ c.loop-step.invariant.tried;
      so_far = c.in_ok-take.ensures.so_far;
      facts =
          c.in_ok-take.ensures.facts
          ∙ ap (λ (ls : List Literal). forced_with size axioms core earlier ls c.step-item.result) c.loop-step.invariant.facts
          ∙ ap (λ (step : StoryStep). forced_with size axioms core earlier (forced_by size axioms core earlier facts (take c.loop-step.step-index c.args.steps.now)) step) c.step-item.is
          ∙ sym (steps_next size axioms core earlier facts c.args.steps.now c.loop-step.step-index c.step-item.result c.loop-step-test.true);
    }
