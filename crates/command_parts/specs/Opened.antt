-- The study of a command, as it was read.
use Rattle.std.specs.Prelude.{◌≡◌, ℕ, ◌≤◌, List, length, Option, Some, Ok}
use Rattle.edge.specs.Shelf.{Files}
use Rattle.vocab.specs.Study.{Question}
use Rattle.study.specs.Reading.{IsStudyOf}
use Rattle.answers.specs.FileLimits.{most_study_bytes}
use Rattle.answers.specs.Runs.{IsBare}
use Rattle.answers.specs.Studies.{RefusesStudy}
use Rattle.command_parts.specs.declared.answer.Answer.{Answer}
use Rattle.command_parts.specs.declared.studies.Opened.{Opened}
use Rattle.command_parts.specs.declared.studies.Opened.TheVariants as opened
use Rattle.command_parts.specs.Answers.{HasText, run_of, text_of}

-- bytes within the limit give the study; where the shelf tells its files, they are those of this name
pub record IsStudyRead (told : Option Files) (name : List ℕ) (study : Question) : Type 0 where
  pub bytes : List ℕ
  pub fits : length bytes ≤ most_study_bytes
  pub gives : IsStudyOf bytes (Ok study)
  pub held : (files : Files) → told ≡ Some files → files name ≡ Some bytes

-- the answer refuses the study with status 3, and by its line where the shelf tells its files
pub record Refuses (told : Option Files) (name : List ℕ) (answer : Answer) : Type 0 where
  pub bare : IsBare (run_of answer) 3
  pub has_text : HasText answer
  pub line : (files : Files) → told ≡ Some files → RefusesStudy files name (text_of answer)

-- a study was read, or it is refused
abbrev pub IsOpened : Option Files → List ℕ → Opened → Type 0
IsOpened told name (opened.Study whole) = IsStudyRead told name whole.study
IsOpened told name (opened.Refused answer) = Refuses told name answer
