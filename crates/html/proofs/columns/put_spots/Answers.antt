use Rattle.vocab.proofs.Ranges.{goes_on}
use Rattle.html.specs.Columns.{spot_html}
use Rattle.html.proofs.columns.put_spots.Goals as goal

pub loop-i-preserved : goal.loop-i-preserved
loop-i-preserved c = goes_on (spot_html c.args.space.now c.args.p c.args.k) _ _ _ _ c.loop-i.invariant c.in_ok-put_spot.ensures
