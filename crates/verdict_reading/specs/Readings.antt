-- What is read of a report or a sharp text: the verdict that it confirms, or why it is refused.
use Rattle.std.specs.Prelude.{◌≡◌, ℕ, ◌+◌, ◌<◌, ◌≤◌, Bool, true, false, List, ◌++◌, length, Option, Some, if◌then◌else◌}
use Rattle.std.specs.Io.KnownBytes.{Consumes, IsAtEnd}
use Rattle.edge.specs.Shelf.{Files}
use Rattle.vocab.specs.Study.{Question}
use Rattle.verdicts.specs.declared.verdicts.Verdict.{Verdict}
use Rattle.verdicts.specs.FirstFault.{Told, Judgement, Confirmed, Faulty, TooLong, beyond}
use Rattle.verdicts.specs.Judge.{judge, answer, conclude, pieces, front, final}
use Rattle.verdicts.specs.Report.{IsReport}
use Rattle.sharp_verdicts.specs.Judged.{Judged, AsReport, AsSharp, has_sharp_title, judged_within}
use Rattle.sharp_verdicts.specs.SharpJudge.{sharp_judge, sharp_answer, sharp_conclude}
use Rattle.sharp_laws.specs.Laws.{IsSharpText}
use Rattle.report_files.specs.Files.{most_verdict_bytes}
use Rattle.verdict_reading.specs.declared.reading.Reading.{Reading}
use Rattle.verdict_reading.specs.declared.reading.Reading.TheVariants as reading
use Rattle.verdict_reading.specs.declared.sharp_verdict.SharpVerdict.{SharpVerdict}
use Rattle.verdict_reading.specs.SharpCollected.{as_read, as_said}

-- what is read where the judge answers so, of reports or of sharp texts
abbrev pub reading_of : Judged → Reading
reading_of (AsReport (Confirmed verdict)) = reading.Confirmed verdict
reading_of (AsReport (Faulty line word)) = reading.Faulty line word
reading_of (AsReport TooLong) = reading.TooLong
reading_of (AsSharp (Confirmed v)) = reading.SharpConfirmed (as_read v)
reading_of (AsSharp (Faulty line word)) = reading.SharpFaulty line word
reading_of (AsSharp TooLong) = reading.SharpTooLong

-- the answer to a text: one with the title of a sharp text is judged as one, and each other text as a report
abbrev pub judged_whole : Question → List ℕ → Judged
judged_whole study text = if has_sharp_title text then AsSharp (sharp_answer study text) else AsReport (answer study text)

-- what a judge answers of lines that have been judged, and of what follows the last line end with its number: of a text that is whole, or of the front of a longer one
abbrev pub judged_end : {S V R : Type 0} → (ℕ → List ℕ → Told S R → Judgement V R) → (whole : Bool) → ℕ → List ℕ → Told S R → Judgement V R
judged_end conclude_with whole n rest told = if whole then conclude_with n rest told else beyond told

-- what is answered of some lines, of a sharp text or of a report, and of what follows them
abbrev pub judged_lines : Question → (sharp whole : Bool) → List (List ℕ) → List ℕ → Judged
judged_lines study sharp whole lines rest =
    if sharp then AsSharp (judged_end (sharp_conclude study) whole (length lines + 1) rest (sharp_judge study lines))
    else AsReport (judged_end conclude whole (length lines + 1) rest (judge study lines))

-- the same of the lines of a text
abbrev pub judged_front : Question → (whole : Bool) → List ℕ → Judged
judged_front study whole text = judged_lines study (has_sharp_title text) whole (front (pieces text)) (final (pieces text))

-- this is read of a text, or of the front of a longer one
abbrev pub IsTextRead : Question → (whole : Bool) → List ℕ → Reading → Type 0
IsTextRead study whole text r = r ≡ reading_of (judged_front study whole text)

-- a verdict that is read is right, and the text is its report, or its sharp text
pub record IsRightOf (study : Question) (text : List ℕ) (r : Reading) : Type 0 where
  pub report : (verdict : Verdict) → r ≡ reading.Confirmed verdict → IsReport study verdict text
  pub sharp : (v : SharpVerdict) → r ≡ reading.SharpConfirmed v → IsSharpText study (as_said v) text

-- a verdict that is read is right: some text is its report, or its sharp text
pub record ReadingHolds (study : Question) (r : Reading) : Type 0 where
  pub report : (verdict : Verdict) → r ≡ reading.Confirmed verdict → (text : List ℕ) × IsReport study verdict text
  pub sharp : (v : SharpVerdict) → r ≡ reading.SharpConfirmed v → (text : List ℕ) × IsSharpText study (as_said v) text

-- ---- files

-- the bytes are all of a file that were left, or as many as the limit allows, where there are more
abbrev pub IsFileFront : (whole : Bool) → (before now : Option (List ℕ)) → (bytes : List ℕ) → Type 0
IsFileFront true before now bytes = Consumes before now bytes × IsAtEnd now × (length bytes ≤ most_verdict_bytes)
IsFileFront false before now bytes = (more : List ℕ) × Consumes before now (bytes ++ more) × (0 < length more) ×
    (length bytes ≡ most_verdict_bytes)

-- the file is held, and this is read of its report or of its sharp text, as `check` judges it
pub record IsReadOf (study : Question) (files : Files) (name : List ℕ) (r : Reading) : Type 0 where
  pub bytes : List ℕ
  pub held : files name ≡ Some bytes
  pub is : r ≡ reading_of (judged_within most_verdict_bytes study bytes)
  pub right : IsRightOf study bytes r
