use Rattle.lanes.proofs.ListLaws.{below_step}
use Rattle.lanes.proofs.building.inner_values.Goals as goal

pub loop-k-preserved : goal.loop-k-preserved
loop-k-preserved c =
    rw c.with-values.ensures (below_step c.loop-k.values c.args.counts.now c.loop-k.k c.reduced.result (rw c.len-k-end.ensures at c.loop-k-test.true) c.loop-k.invariant (rw c.get-count.ensures at c.reduced.ensures))
