use Rattle.std.proofs.Common.{◌∙◌, []}
use Rattle.meaning.specs.Stories.{has_literals}
use Rattle.story.proofs.PlaceLemmas.{all_first}
use Rattle.premises.proofs.StepLemmas.{story_literals, lemma_there}
use Rattle.premises.proofs.StoryLemmas.{lemma_more, counted}
use Rattle.premises.proofs.stories.tell_lemmas.Goals as goal

pub invariant_of-grounds : goal.invariant_of-grounds
invariant_of-grounds g c =
    let size = g.K.OutcomeKind.size c.args.accepted.now.setting.now.kind.now in
    record {
      places = c.args.accepted.now.places;
      literals = rw c.as_slice.ensures (all_first (has_literals size) c.args.accepted.now.story.now c.loop-place.place (story_literals size c.args.accepted.now.setting.now.study.now.axioms c.args.accepted.now.core.now [] c.args.accepted.now.story.now c.args.accepted.now.accepted));
    }

pub tell_shortly-requires-clause-lemma : goal.tell_shortly-requires-clause-lemma
tell_shortly-requires-clause-lemma g c = λ κs out.
    rw c.as_slice.ensures (lemma_there (g.K.OutcomeKind.size c.args.accepted.now.setting.now.kind.now) c.args.accepted.now.setting.now.study.now.axioms c.args.accepted.now.core.now [] c.args.accepted.now.story.now c.loop-place.place c.get.result.now c.args.accepted.now.accepted c.get.ensures)

pub loop-place-preserved : goal.loop-place-preserved
loop-place-preserved g c =
    let size = g.K.OutcomeKind.size c.args.accepted.now.setting.now.kind.now in
    record {
      known = c.in_ok-telling.ensures.known ∙ c.loop-place.invariant.known;
      tried = c.in_ok-telling.ensures.tried ∙ c.loop-place.invariant.tried;
      all = counted c.loop-place.tellings c.push.new.self c.loop-place.place c.in_ok-telling.telling c.loop-place.invariant.all c.in_ok-push.ensures.ok;
      each =
          lemma_more size c.args.accepted.now.setting.now.study.now.axioms c.args.accepted.now.core.now c.args.accepted.now.story.now c.args.forced.now.literals c.loop-place.tellings c.push.new.self c.loop-place.place c.get.result.now c.in_ok-telling.telling
          c.loop-place.invariant.each c.loop-place.invariant.all c.in_ok-push.ensures.ok c.get.ensures (rw c.as_slice.ensures at c.in_ok-telling.ensures.told);
    }
