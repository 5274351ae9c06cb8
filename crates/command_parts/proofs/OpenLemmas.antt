-- A study that was read, or refused.
use Rattle.std.proofs.Common.{◌≡◌, subst, ℕ, ◌≤◌, List, length, Option, Some, IfSome, Ok, Err, None, refl}
use Rattle.edge.specs.Shelf.{Files}
use Rattle.study.specs.declared.faults.StudyFault.{StudyFault}
use Rattle.vocab.specs.Study.{Question, HasFewAxioms}
use Rattle.study.specs.Reading.{IsStudyOf}
use Rattle.study.proofs.WholeStudies.{studies_whole}
use Rattle.verdicts.specs.Laws.{IsReportable}
use Rattle.answers.specs.FileLimits.{most_study_bytes}
use Rattle.answers.specs.StudyLines.{study_line}
use Rattle.answers.specs.Studies.{GivesStudy, RefusesStudy, no_study}
use Rattle.command_parts.specs.Opened.{IsStudyRead}

pub if_some : {A : Type 0} (o : Option A) (P : A → Type 0) (x : A) → IfSome o P → o ≡ Some x → P x
if_some o P x h e = subst (λ (p : Option _). IfSome p P) e h

-- bytes that give no study
pub refuses_bytes : (told : Option Files) (name bytes text : List ℕ) (fault : StudyFault) → IfSome told (λ files. files name ≡ Some bytes) → length bytes ≤ most_study_bytes
    → IsStudyOf bytes (Err fault) → text ≡ study_line fault → (files : Files) → told ≡ Some files → RefusesStudy files name text
refuses_bytes told name bytes text fault h fits bad t files e =
    no_study bytes fault (record { held = if_some told (λ files. files name ≡ Some bytes) files h e; fits = fits }) bad t

-- a study that was read is one that reports speak of
pub reportable : (bytes : List ℕ) (study : Question) → IsStudyOf bytes (Ok study) → IsReportable study
reportable bytes study gives =
    let whole = studies_whole bytes study gives in
    record { taken = whole.0; size = whole.1; names = whole.2 }

-- and it has at most 40 axioms
pub listed : (bytes : List ℕ) (study : Question) → IsStudyOf bytes (Ok study) → HasFewAxioms study
listed bytes study gives = (studies_whole bytes study gives).3

-- it is the study that the file of this name gives
pub given : (told : Option Files) (name : List ℕ) (study : Question) (files : Files) → IsStudyRead told name study → told ≡ Some files → GivesStudy files name study
given told name study files read e = record { bytes = read.bytes; holds = record { held = read.held files e; fits = read.fits }; read = read.gives }

-- where files were told, the one of this name gives a study
pub study_taken : (told : Option Files) (name : List ℕ) (study : Question) → IsStudyRead told name study → IfSome told (λ files. (study : Question) × GivesStudy files name study)
study_taken None name study read = tt
study_taken (Some files) name study read = (study, given (Some files) name study files read refl)
