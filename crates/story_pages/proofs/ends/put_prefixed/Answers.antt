use Rattle.vocab.specs.Formula.{prefix_of}
use Rattle.vocab.specs.Tree.{tree_of}
use Rattle.vocab.proofs.Ranges.{goes_on}
use Rattle.story_pages.specs.Ends.{value_at}
use Rattle.story_pages.proofs.ends.put_prefixed.Goals as goal

pub loop-level-preserved : goal.loop-level-preserved
loop-level-preserved c = goes_on (value_at c.args.space.now (prefix_of (tree_of c.args.formula.now)) c.args.values.now) _ _ _ _ c.loop-level.invariant c.in_ok-put_value_at.ensures
