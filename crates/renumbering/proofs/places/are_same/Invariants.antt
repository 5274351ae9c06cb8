use Rattle.std.proofs.Common.{◌≡◌, ◌<◌, ℕ}
use Rattle.std.specs.Prelude.{get_or}
use Rattle.renumbering.proofs.PlaceLemmas.{no_lit}
use Rattle.renumbering.proofs.places.are_same.Given as goal

-- the literals before the place are the same
abbrev pub invariant-loop-i : goal.invariant-loop-i
invariant-loop-i l = (k : ℕ) → k < l.i → get_or l.left k no_lit ≡ get_or l.right k no_lit
