use Rattle.std.proofs.Common.{◌≡◌, take}
use Rattle.rule_lists.proofs.finding.copied.Given as goal

-- the clauses so far were copied
abbrev pub invariant-loop-k : goal.invariant-loop-k
invariant-loop-k l = l.copy.clauses ≡ take l.k l.list.clauses
