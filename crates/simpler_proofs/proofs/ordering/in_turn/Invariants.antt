use Rattle.std.proofs.Common.{◌≡◌, length}
use Rattle.simpler_proofs.proofs.ordering.in_turn.Given as goal

abbrev pub invariant-loop-k : goal.invariant-loop-k
invariant-loop-k l = record {
  end : l.k-end ≡ length l.lines;
  count : length l.made.lines ≡ l.k;
}
