-- The instances of an axiom in pieces of 4,096.
use Rattle.std.specs.Prelude.{ℕ, ◌+◌, ◌*◌, min, List, Option, MatchOption}
use Rattle.vocab.specs.Size.{Extent}
use Rattle.vocab.specs.Titled.{Titled}
use Rattle.meaning.specs.Instances.{AreInstancesTrue, IsFirstFailure}

-- where a piece of the instances from `from` on begins
abbrev pub start_of_piece : ℕ → ℕ → ℕ
start_of_piece from piece = from + 4096 * piece

-- where a piece of the instances from `from` up to `to` ends
abbrev pub end_of_piece : ℕ → ℕ → ℕ → ℕ
end_of_piece from to piece = min (start_of_piece from (piece + 1)) to

module _ (size : Extent) (table : List ℕ) (a : Titled) where
  -- what was found is the least instance of these that is false of the rule, or none where all are true
  abbrev pub IsLeastFalse : ℕ → ℕ → Option ℕ → Type 0
  IsLeastFalse from to found = MatchOption found (AreInstancesTrue size table a.sentence from to)
      (IsFirstFailure size table a.sentence from to)

  -- what was found is the least instance of a piece that is false of the rule
  abbrev pub IsLeastOfPiece : ℕ → ℕ → ℕ → Option ℕ → Type 0
  IsLeastOfPiece from to piece found = IsLeastFalse (start_of_piece from piece) (end_of_piece from to piece) found
