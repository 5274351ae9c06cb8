-- Lines are judged one after another, up to the first faulty one, and what is answered to a text.
use Rattle.std.specs.Prelude.{ℕ, ◌+◌, List, [], ◌∷◌, Option}
use Rattle.std.specs.Option.{option_map_or}

-- how far lines are read: to where the reader stands, or to the first faulty one, with its refusal; lines are numbered from 1
pub data Told (S R : Type 0) : Type 0 where
  Good : S → Told S R
  Refused : (line : ℕ) → R → Told S R

-- over the refusal of a line where the reader stands, if it has one, and where the reader stands after it
module _ {S R : Type 0} (fault : S → List ℕ → Option R) (after : S → List ℕ → S) where
  -- line after line, the first of this number
  abbrev pub judge_lines : ℕ → S → List (List ℕ) → Told S R
  judge_lines n s [] = Good s
  judge_lines n s (text ∷ texts) = option_map_or (Refused n) (fault s text) (judge_lines (n + 1) (after s text) texts)

-- what is answered to a text: it is confirmed, with what it says, or has a first faulty line, or is longer than what is read of it
pub data Judgement (V R : Type 0) : Type 0 where
  Confirmed : V → Judgement V R
  Faulty : (line : ℕ) → R → Judgement V R
  TooLong : Judgement V R

-- of a text that is read to its end, over the answer where no line is faulty, with the number of the last piece, and the piece
abbrev pub concluded : {S V R : Type 0} → (ℕ → List ℕ → S → Judgement V R) → ℕ → List ℕ → Told S R → Judgement V R
concluded at_end n rest (Refused line word) = Faulty line word
concluded at_end n rest (Good s) = at_end n rest s

-- of a text that is longer than what is read of it: a line that ends within that is faulty, or else it is too long
abbrev pub beyond : {S V R : Type 0} → Told S R → Judgement V R
beyond (Refused line word) = Faulty line word
beyond (Good s) = TooLong
