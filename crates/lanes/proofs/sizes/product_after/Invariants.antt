use Rattle.std.proofs.Common.{◌≡◌, ◌≤◌, drop, length}
use Rattle.vocab.specs.Range.{product}
use Rattle.lanes.proofs.sizes.product_after.Given as goal

-- the product of the values from k on
abbrev pub invariant-loop-k : goal.invariant-loop-k
invariant-loop-k l = record {
  low : l.skip ≤ l.k;
  high : l.k ≤ length l.all;
  made : l.total ≡ product (drop l.k l.all);
}

abbrev pub decreases-loop-k : goal.decreases-loop-k
decreases-loop-k l = l.k
