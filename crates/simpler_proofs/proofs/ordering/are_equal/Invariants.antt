use Rattle.std.proofs.Common.{◌≡◌, ◌<◌, ℕ}
use Rattle.std.specs.Prelude.{get_or}
use Rattle.simpler_proofs.proofs.ordering.are_equal.Given as goal

-- the ids before the place are the same
abbrev pub invariant-loop-i : goal.invariant-loop-i
invariant-loop-i l = (k : ℕ) → k < l.i → get_or l.left k 0 ≡ get_or l.right k 0
