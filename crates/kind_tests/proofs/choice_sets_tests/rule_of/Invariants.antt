use Rattle.std.proofs.Common.{◌-◌, ◌≤◌, length}
use Rattle.std.specs.Prelude.{nat_lt, IsTrue}
use Rattle.std.specs.List.{list_all}
use Rattle.vocab.specs.Size.{outcome_count}
use Rattle.kind_tests.proofs.choice_sets_tests.rule_of.Given as goal

-- so far each outcome is one of the size
abbrev pub invariant-loop-table : goal.invariant-loop-table
invariant-loop-table l = (length l.table ≤ l.count) × IsTrue (list_all (λ o. nat_lt o (outcome_count l.space.kind l.space.alternatives)) l.table)

abbrev pub decreases-loop-table : goal.decreases-loop-table
decreases-loop-table l = l.count - length l.table
