use Rattle.std.proofs.Common.{◌≡◌, ◌≤◌, List, length}
use Rattle.meaning.specs.Written.{Written, or_chain}
use Rattle.clause_form.specs.Bounds.{AreBounded, IsBound}
use Rattle.clause_form.proofs.bounds.some_of.Given as goal

-- the bound of a chain of as many parts
abbrev pub invariant-loop : goal.invariant-loop
invariant-loop l = record {
  some : 1 ≤ l.counter;
  chained : (ws : List Written) → length ws ≡ l.counter → AreBounded l.part ws → IsBound l.some (or_chain ws);
}
