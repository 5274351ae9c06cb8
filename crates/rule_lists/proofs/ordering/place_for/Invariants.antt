use Rattle.std.proofs.Common.{◌≡◌, true, take}
use Rattle.std.specs.List.{list_all}
use Rattle.rule_lists.specs.RuleLists.{is_table_before}
use Rattle.rule_lists.proofs.ordering.place_for.Given as goal

-- the tables so far come before this one
abbrev pub invariant-loop-place : goal.invariant-loop-place
invariant-loop-place l = list_all (λ t. is_table_before t l.table) (take l.place l.tables) ≡ true
