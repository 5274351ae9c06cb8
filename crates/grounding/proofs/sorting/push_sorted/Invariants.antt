use Rattle.std.proofs.Common.{◌≤◌, ◌-◌, ◌++◌, drop, take}
use Rattle.grounding.specs.Parts.{KeepSame, from_rows}
use Rattle.grounding.proofs.sorting.push_sorted.Given as goal

abbrev pub invariant-loop-k : goal.invariant-loop-k
invariant-loop-k l = record {
  after : l.start ≤ l.k;
  same : KeepSame l.out (l.fn.out ++ from_rows l.origin (take (l.k - l.start) (drop l.start l.rows)));
}
