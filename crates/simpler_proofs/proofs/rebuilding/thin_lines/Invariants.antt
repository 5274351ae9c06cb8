use Rattle.std.proofs.Common.{◌≡◌, length}
use Rattle.simpler_proofs.proofs.rebuilding.thin_lines.Given as goal

abbrev pub invariant-loop-k : goal.invariant-loop-k
invariant-loop-k l = record {
  end : l.k-end ≡ length l.lines;
  count : length l.singles.made.lines ≡ l.k;
  variables : l.singles.variables ≡ l.variables;
}
