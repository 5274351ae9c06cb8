-- `story STUDY REPORT`: the page of what a report or a sharp text says of a study.
use Rattle.std.specs.Prelude.{◌≡◌, ℕ, List, [], None, Some}
use Rattle.edge.specs.Shelf.{Files}
use Rattle.vocab.specs.Study.{Question}
use Rattle.verdicts.specs.FirstFault.{Confirmed, Faulty, TooLong}
use Rattle.sharp_verdicts.specs.Judged.{Judged, AsReport, AsSharp, judged_text}
use Rattle.answers.specs.Check.{judged, judged_status}
use Rattle.answers.specs.declared.runs.Run.{Run}
use Rattle.answers.specs.Studies.{OverStudy}
use Rattle.explain_answers.specs.Page.{IsPageText, IsSharpPageText}

-- what is written of a report or a sharp text: a page of the verdict that it confirms, and where it is refused what `check` says
abbrev pub IsSaid : Question → (name report : List ℕ) → Judged → (text : List ℕ) → Type 0
IsSaid study name report (AsReport (Confirmed verdict)) text = IsPageText study name report verdict text
IsSaid study name report (AsReport (Faulty line word)) text = text ≡ judged_text (AsReport (Faulty line word))
IsSaid study name report (AsReport TooLong) text = text ≡ judged_text (AsReport TooLong)
IsSaid study name report (AsSharp (Confirmed v)) text = IsSharpPageText study name report v text
IsSaid study name report (AsSharp (Faulty line word)) text = text ≡ judged_text (AsSharp (Faulty line word))
IsSaid study name report (AsSharp TooLong) text = text ≡ judged_text (AsSharp TooLong)

-- the report of a file is judged over a study: the status is that of `check`, and the text is what is written of it
pub record IsToldOf (files : Files) (name report : List ℕ) (study : Question) (status : ℕ) (text : List ℕ) : Type 0 where
  pub bytes : List ℕ
  pub held : files report ≡ Some bytes
  pub ends : status ≡ judged_status (judged study bytes)
  pub said : IsSaid study name report (judged study bytes) text

-- a run that has this status, and tells of no search and of nothing sharp
abbrev pub bare_run : ℕ → Run
bare_run status = record { status = status; verdict = None; logs = []; sharp = None }

-- the file of the study is refused as `check` refuses it, or it gives a study over which the report is judged
abbrev pub IsStoryAnswer : Files → (name report : List ℕ) → (status : ℕ) → (text : List ℕ) → Type 0
IsStoryAnswer files name report status text = OverStudy files name (bare_run status) text (λ study. IsToldOf files name report study status text)
