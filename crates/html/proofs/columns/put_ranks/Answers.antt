use Rattle.vocab.proofs.Ranges.{goes_on}
use Rattle.html.specs.Columns.{rank_html}
use Rattle.html.proofs.columns.put_ranks.Goals as goal

pub loop-k-preserved : goal.loop-k-preserved
loop-k-preserved c = goes_on (rank_html c.args.space.now c.args.p) _ _ _ _ c.loop-k.invariant c.in_ok-put_rank.ensures
