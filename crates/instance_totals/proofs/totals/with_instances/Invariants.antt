use Rattle.std.proofs.Common.{◌≡◌, ◌+◌, ◌*◌, ◌≤◌}
use Rattle.instance_totals.proofs.TotalLemmas.{front}
use Rattle.instance_totals.proofs.totals.with_instances.Given as goal

-- the counts of the frames and of the instances of the axioms so far
abbrev pub invariant-loop-place : goal.invariant-loop-place
invariant-loop-place g l = record {
  within : l.place ≤ l.count;
  clauses : l.clauses ≡ (front l.setting.study.now l.place).clauses;
  literals : l.literals ≡ (front l.setting.study.now l.place).literals;
  few : l.clauses ≤ 4000000 + l.place * 4000000000000;
  small : l.literals ≤ 60000000 + l.place * 160000000000000;
}
