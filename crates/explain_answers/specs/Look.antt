-- `study STUDY`: what a study asks, before any search; and of a study that is refused what helps.
use Rattle.std.specs.Prelude.{◌≡◌, ℕ, List, ◌++◌, codes, Ok, Err}
use Rattle.edge.specs.Shelf.{Files}
use Rattle.vocab.specs.Study.{Question}
use Rattle.answers.specs.FileLimits.{most_study_bytes, HasFile, HoldsTooMany}
use Rattle.answers.specs.Grounding.{OverClauses}
use Rattle.answers.specs.StudyLines.{study_line}
use Rattle.study.specs.declared.faults.StudyFault.{StudyFault}
use Rattle.study.specs.Reading.{IsStudyOf}
use Rattle.study_help.specs.Help.{IsHelp}
use Rattle.study_text.specs.LookText.{study_text}
use Rattle.explain_answers.specs.Story.{bare_run}

-- what a study asks is told
pub record IsLooked (study : Question) (status : ℕ) (text : List ℕ) : Type 0 where
  pub ends : status ≡ 0
  pub lines : text ≡ study_text study

-- what is said of the bytes of a study: the line by which they are refused, and after it what helps; or the clauses of the
-- axioms are refused, as `decide` refuses them; or what the study asks
pub data IsLookAt (bytes : List ℕ) (status : ℕ) (text : List ℕ) : Type 0 where
  refused : (fault : StudyFault) (help : List ℕ) → IsStudyOf bytes (Err fault) → IsHelp bytes fault help
      → text ≡ study_line fault ++ help → status ≡ 3 → IsLookAt bytes status text
  told : (study : Question) → IsStudyOf bytes (Ok study) → OverClauses study (bare_run status) text (IsLooked study status text)
      → IsLookAt bytes status text

-- the file of the study is too long, or this is said of its bytes
pub data IsLook (files : Files) (name : List ℕ) (status : ℕ) (text : List ℕ) : Type 0 where
  long : HoldsTooMany files most_study_bytes name → text ≡ codes "study: too long\n" → status ≡ 3 → IsLook files name status text
  within : (bytes : List ℕ) → HasFile files most_study_bytes name bytes → IsLookAt bytes status text → IsLook files name status text
