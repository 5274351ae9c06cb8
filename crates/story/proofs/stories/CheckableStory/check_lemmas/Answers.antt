use Rattle.std.proofs.Common.{◌∙◌, refl, take}
use Rattle.vocab.specs.Size.{Extent}
use Rattle.meaning.specs.Stories.{has_literals}
use Rattle.meaning.specs.StoryFaults.{story_refusal}
use Rattle.story.proofs.PlaceLemmas.{all_first}
use Rattle.story.proofs.StoryLemmas.{all_left, none_left, followed, refused}
use Rattle.story.proofs.stories.CheckableStory.check_lemmas.Goals as goal

pub loop-place-init : goal.loop-place-init
loop-place-init g c = record {
  size = refl;
  cleared = c.requires.cleared;
  rest = all_left (g.K.OutcomeKind.size c.args.self.now.setting.now.kind.now) c.args.self.now.setting.now.study.now.axioms c.args.self.now.core.now c.as_slice-lemmas.result.now c.if-is_empty.ensures;
}

pub invariant_of-grounds : goal.invariant_of-grounds
invariant_of-grounds g c =
    let size : Extent = g.K.OutcomeKind.size c.args.self.now.setting.now.kind.now in
    record {
      places = c.args.self.now.places;
      literals = all_first (has_literals size) c.as_slice-lemmas.result.now c.loop-place.place (rw c.as_slice-lemmas.ensures c.args.self.now.literals);
    }

pub returns-in-Err : goal.returns-in-Err
returns-in-Err g c =
    let size : Extent = g.K.OutcomeKind.size c.args.self.now.setting.now.kind.now in
    let axioms = c.args.self.now.setting.now.study.now.axioms in
    let core = c.args.self.now.core.now in
    let lemmas = c.as_slice-lemmas.result.now in
    rw c.as_slice-lemmas.ensures at (refused size axioms core lemmas c.loop-place.place c.index-lemmas-place.result c.loop-place-test.true c.index-lemmas-place.is (story_refusal size axioms core lemmas) c.loop-place.invariant.rest c.in-Err.fault c.in-Err.ensures.fault)

pub loop-place-preserved : goal.loop-place-preserved
loop-place-preserved g c =
    let size : Extent = g.K.OutcomeKind.size c.args.self.now.setting.now.kind.now in
    let axioms = c.args.self.now.setting.now.study.now.axioms in
    let core = c.args.self.now.core.now in
    let lemmas = c.as_slice-lemmas.result.now in
    record {
      size = c.in-Ok.ensures.size ∙ c.loop-place.invariant.size;
      cleared = c.in-Ok.ensures.cleared;
      rest = followed size axioms core lemmas c.loop-place.place c.index-lemmas-place.result c.loop-place-test.true c.index-lemmas-place.is (story_refusal size axioms core lemmas) c.loop-place.invariant.rest c.in-Ok.ensures.fault;
    }

pub returns : goal.returns
returns g c =
    let size : Extent = g.K.OutcomeKind.size c.args.self.now.setting.now.kind.now in
    let axioms = c.args.self.now.setting.now.study.now.axioms in
    let core = c.args.self.now.core.now in
    let lemmas = c.as_slice-lemmas.result.now in
    rw c.as_slice-lemmas.ensures at (none_left size axioms core (story_refusal size axioms core lemmas) (take c.loop-place.place lemmas) lemmas c.loop-place.place c.loop-place.invariant.rest c.loop-place-test.false)
