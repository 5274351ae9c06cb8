-- What stands on a board while a passage is checked.
use Rattle.std.specs.Prelude.{◌≡◌, ℕ, ◌<◌, List, length, slice_get}
use Rattle.vocab.specs.declared.literals.Literal.{Literal}
use Rattle.tellings.specs.declared.tellings.Sentence.{Sentence}
use Rattle.tellings.specs.Tellings.{rests_of}

-- the literals are those that the sentence of the number rests on, if there is one
abbrev pub IsLoaded : List Sentence → ℕ → List Literal → Type 0
IsLoaded sentences number literals =
    number < length sentences → literals ≡ rests_of (slice_get sentences number)
