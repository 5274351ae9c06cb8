-- The axioms that are kept.
use Rattle.std.specs.Prelude.{ℕ, Bool, false, not, List, slice_index_or}

-- an axiom is kept unless its flag says that it is gone
abbrev pub keeps : List Bool → ℕ → Bool
keeps gone a = not (slice_index_or gone a false)
