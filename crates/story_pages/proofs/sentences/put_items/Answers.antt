use Rattle.vocab.proofs.Ranges.{goes_on}
use Rattle.story_pages.specs.Sentences.{item_at}
use Rattle.story_pages.proofs.sentences.put_items.Goals as goal

pub loop-number-preserved : goal.loop-number-preserved
loop-number-preserved c = goes_on (item_at c.args.space.now c.args.axioms.now c.args.passage.now) _ _ _ _ c.loop-number.invariant c.in_ok-put_item_at.ensures
