use Rattle.std.proofs.Common.{◌≤◌}
use Rattle.std.specs.Prelude.{IsFalse}
use Rattle.sharp_verdicts.specs.Totals.{passes_clause_limits}
use Rattle.instance_totals.proofs.TotalLemmas.{front}
use Rattle.instance_totals.proofs.bounds.are_bounded.Given as goal

-- the counts of the frames and of the instances of the axioms so far are at most these, which pass no limit
abbrev pub invariant-loop-place : goal.invariant-loop-place
invariant-loop-place g l = record {
  within : l.place ≤ l.count;
  few : IsFalse (passes_clause_limits l.most);
  clauses : (front l.setting.study.now l.place).clauses ≤ l.most.clauses;
  literals : (front l.setting.study.now l.place).literals ≤ l.most.literals;
}
