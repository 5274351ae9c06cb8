use Rattle.vocab.proofs.Ranges.{goes_on}
use Rattle.html.specs.Grids.{head_html}
use Rattle.html.proofs.grids.put_heads.Goals as goal

pub loop-b-preserved : goal.loop-b-preserved
loop-b-preserved c = goes_on (head_html c.args.space.now) _ _ _ _ c.loop-b.invariant c.in_ok-put_head.ensures
