use Rattle.std.proofs.Common.{◌≡◌, ◌-◌, ◌≤◌}
use Rattle.instance_totals.specs.Sums.{counts_from}
use Rattle.instance_totals.proofs.pieces.sum_of.Given as goal

-- the counts of the instances so far
abbrev pub invariant-loop-number : goal.invariant-loop-number
invariant-loop-number g l = record {
  rising : l.from ≤ l.number;
  within : l.number ≤ l.to;
  clauses : l.clauses ≡ (counts_from l.study l.place l.from (l.number - l.from)).clauses;
  literals : l.literals ≡ (counts_from l.study l.place l.from (l.number - l.from)).literals;
}
