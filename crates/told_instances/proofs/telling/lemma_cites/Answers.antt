use Rattle.std.proofs.Common.{◌∙◌, List, sym, ap, ◌||◌}
use Rattle.std.specs.List.{list_any}
use Rattle.std.proofs.lemmas.Bool.{or_left}
use Rattle.meaning.specs.declared.stories.StoryStep.{StoryStep}
use Rattle.sharp_verdicts.specs.Instances.{cites_axiom}
use Rattle.told_instances.proofs.ToldLaws.{reasons_cite}
use Rattle.told_instances.proofs.telling.lemma_cites.Goals as goal

pub returns-then-steps_cite : goal.returns-then-steps_cite
returns-then-steps_cite c =
    let steps = c.steps_cite.ensures ∙ ap (λ (ss : List StoryStep). list_any (λ step. cites_axiom c.args.k step.reason) ss) c.as_slice.ensures in
    c.if-steps_cite.true ∙ sym (reasons_cite c.args.k c.args.lemma.now ∙ or_left _ _ (sym steps ∙ c.if-steps_cite.true))

pub returns-else-steps_cite : goal.returns-else-steps_cite
returns-else-steps_cite c =
    let steps = c.steps_cite.ensures ∙ ap (λ (ss : List StoryStep). list_any (λ step. cites_axiom c.args.k step.reason) ss) c.as_slice.ensures in
    c.cites_axiom.ensures ∙ sym (reasons_cite c.args.k c.args.lemma.now ∙ ap (λ b. b || cites_axiom c.args.k c.args.lemma.now.last) (sym steps ∙ c.if-steps_cite.false))
