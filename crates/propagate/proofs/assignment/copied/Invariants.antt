use Rattle.std.proofs.Common.{◌≡◌, length, take}
use Rattle.std.specs.Prelude.{All}
use Rattle.propagate.specs.Values.{StartsAtOne}
use Rattle.propagate.proofs.assignment.copied.Given as goal

abbrev pub invariant-loop-k : goal.invariant-loop-k
invariant-loop-k l = record { same : l.store ≡ take l.k l.clauses.clauses; from_one : All StartsAtOne (take l.k l.clauses.clauses); end : l.k-end ≡ length l.clauses.clauses }
