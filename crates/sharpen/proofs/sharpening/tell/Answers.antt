use Rattle.std.proofs.Common.{◌≡◌, refl, ◌∙◌, ap, sym, subst, List, true}
use Rattle.vocab.specs.Study.{Question}
use Rattle.meaning.specs.declared.stories.Lemma.{Lemma}
use Rattle.meaning.specs.Stories.{is_story}
use Rattle.sharp_verdicts.specs.Instances.{instances_of, core_of}
use Rattle.instance_cores.specs.Cores.{IsReducedTo}
use Rattle.told_instances.specs.Told.{has_reasons}
use Rattle.sharpen.proofs.ToldLaws.{named_have_reasons}
use Rattle.sharpen.proofs.SharpenedLaws.{is_within, as_many, sharpened_as}
use Rattle.sharpen.proofs.sharpening.tell.Goals as goal

pub instances_told-requires-clause-reasons : goal.instances_told-requires-clause-reasons
instances_told-requires-clause-reasons g c =
    subst (λ (story : List Lemma). has_reasons c.args.setting.now.study.now story ≡ true) (sym (c.as_slice.ensures ∙ c.in_ok-story.ensures)) (named_have_reasons c.args.setting.now.study.now c.args.instances c.requires.derived.own.present c.in_ok-told.told)

pub marks_of-requires-clause-core : goal.marks_of-requires-clause-core
marks_of-requires-clause-core g c =
    is_within c.args.setting.now.study.now c.args.instances c.args.reduced (subst (λ (made : Question). IsReducedTo made c.args.reduced) c.requires.derived.made c.requires.reduced)

pub marks_of-requires-clause-count : goal.marks_of-requires-clause-count
marks_of-requires-clause-count g c =
    as_many c.args.setting.now.study.now c.args.instances c.args.reduced (subst (λ (made : Question). IsReducedTo made c.args.reduced) c.requires.derived.made c.requires.reduced)

pub returns : goal.returns
returns g c =
    let right = subst (λ (made : Question). IsReducedTo made c.args.reduced) c.requires.derived.made c.requires.reduced in
    let accepted = subst (λ (made : Question). is_story made.size made.axioms c.args.reduced.refutation.core c.in_ok-told.told ≡ true) c.requires.derived.made c.in_ok-told.ensures.accepted in
    sharpened_as c.args.setting.now.study.now c.args.instances c.args.reduced right c.axioms-axioms.ensures.study c.requires.derived.own.present c.requires.derived.rising c.in_ok-told.told accepted _
    c.in_ok-story.ensures (c.in_ok-core.ensures ∙ ap (core_of c.args.setting.now.study.now) c.as_slice-2.ensures) (c.in_ok-listed.ensures ∙ ap (instances_of c.args.setting.now.study.now) c.as_slice.ensures) c.in_ok-marks.ensures refl refl
