use Rattle.std.proofs.Common.{arith}
use Rattle.grounding.proofs.PartLaws.{same-row}
use Rattle.grounding.proofs.sorting.push_sorted.Goals as goal

pub loop-k-preserved : goal.loop-k-preserved
loop-k-preserved c = record {
  after = let a = c.loop-k.invariant.after in omega (arith, a);
  same = same-row c.args.out.now c.loop-k.out c.push_row.new.out c.args.origin c.args.rows.now c.args.start c.loop-k.k c.get.result.now c.loop-k.invariant.after (let t = c.loop-k-test.true in let e = c.len-k-end.ensures in omega (arith, t, e)) c.get.ensures c.in_ok-push_row.ensures c.loop-k.invariant.same;
}
