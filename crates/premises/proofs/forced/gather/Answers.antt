use Rattle.std.proofs.Common.{refl, sym, ap, ◌∙◌, List, get_or, arith}
use Rattle.lists.proofs.TestLaws.{all_read}
use Rattle.vocab.specs.declared.literals.Literal.{Literal}
use Rattle.meaning.specs.Stories.{has_literals}
use Rattle.tellings.specs.Tellings.{forced_by}
use Rattle.premises.proofs.ForcedLemmas.{lemmas_next}
use Rattle.premises.proofs.StepLemmas.{steps_literals}
use Rattle.premises.proofs.forced.gather.Goals as goal

pub take_all-requires-clause-literals : goal.take_all-requires-clause-literals
take_all-requires-clause-literals g c = λ κs out.
    let size = g.K.OutcomeKind.size c.args.grounds.now.setting.now.kind.now in
    let lemma = c.index-story-place.result in
    rw c.as_slice-steps.ensures
    (steps_literals size (get_or c.args.story.now c.loop-place.place lemma) (all_read (has_literals size) c.args.story.now c.loop-place.place lemma (omega arith) c.requires.literals))

pub loop-place-preserved : goal.loop-place-preserved
loop-place-preserved g c =
    let size = g.K.OutcomeKind.size c.args.grounds.now.setting.now.kind.now in
    let axioms = c.args.grounds.now.setting.now.study.now.axioms in
    let core = c.args.grounds.now.core.now in
    let earlier = c.args.grounds.now.lemmas.now in
    let lemma = get_or c.args.story.now c.loop-place.place c.index-story-place.result in
    record {
      tried = c.in_ok-take_all.ensures.tried ∙ c.loop-place.invariant.tried;
      so_far = c.in_ok-take_all.ensures.so_far;
      facts =
          (rw c.as_slice-steps.ensures at c.in_ok-take_all.ensures.facts)
          ∙ ap (λ (ls : List Literal). forced_by size axioms core earlier ls lemma.steps) c.loop-place.invariant.facts
          ∙ sym (lemmas_next size axioms core earlier c.args.story.now c.loop-place.place c.index-story-place.result (omega arith));
    }

pub loop-place-init : goal.loop-place-init
loop-place-init g c = record { tried = refl; so_far = c.in_ok-gathered.ensures.so_far c.args.grounds.now.setting.now.study.now.axioms c.args.grounds.now.core.now c.args.grounds.now.lemmas.now; facts = c.in_ok-gathered.ensures.none }
