-- The file of a study: what it gives, or the line by which it is refused.
use Rattle.std.specs.Prelude.{◌≡◌, ℕ, List, codes, Ok, Err}
use Rattle.edge.specs.Shelf.{Files}
use Rattle.vocab.specs.Study.{Question}
use Rattle.study.specs.declared.faults.StudyFault.{StudyFault}
use Rattle.study.specs.Reading.{IsStudyOf}
use Rattle.answers.specs.declared.runs.Run.{Run}
use Rattle.answers.specs.Runs.{IsBare}
use Rattle.answers.specs.FileLimits.{most_study_bytes, HasFile, HoldsTooMany}
use Rattle.answers.specs.StudyLines.{study_line}

-- the file gives this study
pub record GivesStudy (files : Files) (name : List ℕ) (study : Question) : Type 0 where
  pub bytes : List ℕ
  pub holds : HasFile files most_study_bytes name bytes
  pub read : IsStudyOf bytes (Ok study)

-- the file is refused with this line
pub data RefusesStudy (files : Files) (name text : List ℕ) : Type 0 where
  too_long : HoldsTooMany files most_study_bytes name → text ≡ codes "study: too long\n" → RefusesStudy files name text
  no_study : (bytes : List ℕ) (fault : StudyFault) → HasFile files most_study_bytes name bytes → IsStudyOf bytes (Err fault) → text ≡ study_line fault
      → RefusesStudy files name text

-- a command over the study of a file: the file is refused, or gives a study of which the rest holds
pub data OverStudy (files : Files) (name : List ℕ) (run : Run) (text : List ℕ) (IsRest : Question → Type 0) : Type 0 where
  study_refused : RefusesStudy files name text → IsBare run 3 → OverStudy files name run text IsRest
  study_given : (study : Question) → GivesStudy files name study → IsRest study → OverStudy files name run text IsRest
