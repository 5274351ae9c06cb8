use Rattle.std.proofs.Common.{◌≡◌, ◌<◌, ℕ, length, take}
use Rattle.cnf.specs.Assignment.{value_of}
use Rattle.core_reduce.specs.Kept.{keeps}
use Rattle.core_maps.specs.Asking.{is_whole_true}
use Rattle.core_maps.proofs.passing.failing.Given as goal

-- the axioms are kept each of whose clauses so far is true
abbrev pub invariant-loop-k : goal.invariant-loop-k
invariant-loop-k l = record {
  count : length l.gone.items ≡ l.count;
  kept : (a : ℕ) → a < l.count → keeps l.gone.items a ≡ is_whole_true (value_of l.bits) (take l.k l.ground) a;
}
