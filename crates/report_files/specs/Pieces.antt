-- What a reader of pieces stands for.
use Rattle.std.specs.Prelude.{◌≡◌, ℕ, List, ◌++◌, take}
use Rattle.verdicts.specs.Judge.{pieces, front, final}
use Rattle.report_files.specs.Lines.{CheckerState, StandsForLines}

-- what a reader is to a contract: its checker of lines, and the bytes that it holds
pub record ReaderState : Type 0 where
  pub checker : CheckerState
  pub held : List ℕ

-- enough of a line to tell that it is too long
abbrev pub head_of : List ℕ → List ℕ
head_of line = take 4097 line

-- a reader stands for a text where its checker does for the lines that have ended, and it holds the front of what follows them
abbrev pub StandsForText : ReaderState → List ℕ → Type 0
StandsForText r text = StandsForLines r.checker (front (pieces text)) ×
    (r.held ≡ head_of (final (pieces text)))

-- the reader took these bytes
abbrev pub HasTaken : (before now : ReaderState) → List ℕ → Type 0
HasTaken before now bytes = (text : List ℕ) → StandsForText before text →
    StandsForText now (text ++ bytes)
