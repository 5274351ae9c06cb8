use Rattle.vocab.proofs.Ranges.{goes_on}
use Rattle.story_pages.specs.Homes.{lemma_at}
use Rattle.story_pages.proofs.homes.put_lemmas.Goals as goal

pub loop-place-preserved : goal.loop-place-preserved
loop-place-preserved c = goes_on (lemma_at c.args.space.now c.args.axioms.now c.args.story.now c.args.told.now) _ _ _ _ c.loop-place.invariant c.in_ok-put_lemma_at.ensures
