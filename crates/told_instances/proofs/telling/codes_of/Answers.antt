use Rattle.std.proofs.Common.{◌≡◌, refl, length, sym, subst, List, true}
use Rattle.std.specs.List.{list_all}
use Rattle.std.proofs.lemmas.Option.{slice_get_read}
use Rattle.lists.proofs.TestLaws.{all_get}
use Rattle.meaning.specs.declared.stories.Lemma.{Lemma}
use Rattle.meaning.specs.declared.stories.StoryStep.{StoryStep}
use Rattle.sharp_verdicts.specs.Instances.{reasons_of}
use Rattle.told_instances.specs.Told.{names_instance}
use Rattle.told_instances.proofs.ToldLaws.{steps_reasons}
use Rattle.told_instances.proofs.telling.codes_of.Goals as goal

pub push_steps-requires-clause-reasons : goal.push_steps-requires-clause-reasons
push_steps-requires-clause-reasons c =
    let at = slice_get_read c.args.story.now (length c.args.story.now) c.loop-lemma.lemma-index c.lemma-item.result refl c.loop-lemma-test.true c.lemma-item.is in
    let here = all_get (λ (lemma : Lemma). list_all (names_instance c.args.study.now) (reasons_of lemma)) c.args.story.now c.loop-lemma.lemma-index c.lemma-item.result c.requires.reasons at in
    subst (λ (ss : List StoryStep). list_all (λ step. names_instance c.args.study.now step.reason) ss ≡ true) (sym c.as_slice.ensures) (steps_reasons c.args.study.now c.lemma-item.result here)
