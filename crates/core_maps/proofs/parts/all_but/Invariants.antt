use Rattle.std.proofs.Common.{◌≡◌, ◌<◌, ℕ, length, take}
use Rattle.search_logs.specs.Spent.{has_place}
use Rattle.core_reduce.specs.Kept.{keeps}
use Rattle.core_maps.proofs.parts.all_but.Given as goal

-- the axioms so far are kept
abbrev pub invariant-loop-place : goal.invariant-loop-place
invariant-loop-place l = record {
  count : length l.gone.items ≡ l.count;
  kept : (a : ℕ) → a < l.count → keeps l.gone.items a ≡ has_place (take l.place-index l.set) a;
}
