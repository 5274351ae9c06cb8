-- Cutting a text at its first line end.
use Rattle.std.specs.Prelude.{◌≡◌, ℕ, ◌<◌, true, List, ◌∷◌, ◌++◌, take, length, slice_index, Option, MatchOption}
use Rattle.verdicts.specs.Judge.{has_no_end}
use denote.Ref.{Bor}

-- the first line end of a text stands at this place
pub record IsFirstEnd (text : List ℕ) (place : ℕ) : Type 0 where
  pub within : place < length text
  pub ends : slice_index text place ≡ 10
  pub first : has_no_end (take place text) ≡ true

-- what stands before the first line end and what follows it, or that there is none
abbrev pub IsLineCut : List ℕ → Option (Bor (List ℕ) × Bor (List ℕ)) → Type 0
IsLineCut text cut = MatchOption cut (has_no_end text ≡ true)
    (λ parts. (text ≡ parts.0.now ++ (10 ∷ parts.1.now)) × (has_no_end parts.0.now ≡ true))
