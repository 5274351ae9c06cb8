use Rattle.std.proofs.Common.{◌≡◌, drop}
use Rattle.verdicts.specs.Faults.{table_fault}
use Rattle.rule_check.proofs.check.check_rule.Given as goal

-- the fault is that of the axioms at the places that are left
abbrev pub invariant-loop-place : goal.invariant-loop-place
invariant-loop-place g l = table_fault l.setting.study.now l.table l.places ≡ table_fault l.setting.study.now l.table (drop l.place-index l.places)
