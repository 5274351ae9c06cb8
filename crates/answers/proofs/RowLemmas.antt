-- A file gives one study, and is not refused where it gives one; and the clauses of a study are made, or have one refusal.
use Rattle.std.proofs.Common.{◌≡◌, ◌∙◌, sym, ap, subst, ℕ, ◌<◌, ◌≤◌, List, length, Option, None, Some, Result, Ok, Err, arith, refl, ◌≢◌}
use Rattle.edge.specs.Shelf.{Files}
use Rattle.vocab.specs.Study.{Question}
use Rattle.study.specs.declared.faults.StudyFault.{StudyFault}
use Rattle.study.specs.Reading.{IsStudyOf}
use Rattle.study.proofs.OneAnswer.{studies_once}
use Rattle.clause_form.specs.declared.refusals.GroundFault.{GroundFault}
use Rattle.clause_text.specs.ReadDimacs.{Formula, read_dimacs}
use Rattle.words.specs.Words.{Request, request_of}
use Rattle.answers.specs.declared.runs.Run.{Run}
use Rattle.answers.specs.FileLimits.{most_study_bytes, HasFile}
use Rattle.answers.specs.Studies.{GivesStudy, RefusesStudy, too_long, no_study, OverStudy, study_refused, study_given}
use Rattle.answers.specs.Runs.{IsBare}
use Rattle.answers.specs.Grounding.{clauses_fault, refusal_line, OverClauses, clauses_refused, clauses_made}
use Rattle.answers.specs.Lrat.{GivesFormula}
use Rattle.answers.specs.Lawful.{IsBenchAnswer, Lawful}
use Rattle.clause_form.specs.declared.refusals.GroundFault.TheVariants.{Full, NoMemory, Wide}
use Rattle.clause_form.specs.Refusals.{IsRefused}

pub some_same : {A : Type 0} (o : Option A) (x y : A) → o ≡ Some x → o ≡ Some y → x ≡ y
some_same o x y h k = cc

-- the row of a request
pub row_of : (words : List (List ℕ)) (files : Files) (run : Run) (text : List ℕ) (request : Option Request) → request_of words ≡ request → Lawful words files run text
    → IsBenchAnswer request files run text
row_of words files run text request e lawful = subst (λ (r : Option Request). IsBenchAnswer r files run text) e lawful

not_long : (b b' : List ℕ) → b ≡ b' → most_study_bytes < length b → length b' ≤ most_study_bytes → ⊥
not_long b b' same long fits = let l : length b ≡ length b' = ap length same in omega arith

module _ (files : Files) (name : List ℕ) where
  -- the bytes of a study give one answer
  pub same_reading : (b b' : List ℕ) (r r' : Result Question StudyFault) → HasFile files most_study_bytes name b → HasFile files most_study_bytes name b' → IsStudyOf b r → IsStudyOf b' r' → r ≡ r'
  same_reading b b' r r' h h' read read' =
      studies_once b' r r' (subst (λ (x : List ℕ). IsStudyOf x r) (some_same (files name) b b' h.held h'.held) read) read'

  pub one_study : (s s' : Question) → GivesStudy files name s → GivesStudy files name s' → s ≡ s'
  one_study s s' g g' = let same = same_reading g.bytes g'.bytes (Ok s) (Ok s') g.holds g'.holds g.read g'.read in cc

  pub not_refused : (s : Question) (text : List ℕ) → GivesStudy files name s → RefusesStudy files name text → ⊥
  not_refused s text g (too_long h e) = not_long h.bytes g.bytes (some_same (files name) h.bytes g.bytes h.held g.holds.held) h.long g.holds.fits
  not_refused s text g (no_study bytes fault h read e) = let same = same_reading g.bytes bytes (Ok s) (Err fault) g.holds h g.read read in absurd (cc)

  -- where the file gives a study, the rest holds of it
  pub over_study : (run : Run) (text : List ℕ) (P : Question → Type 0) (study : Question) → GivesStudy files name study → OverStudy files name run text P → P study
  over_study run text P study g (study_refused r bare) = absurd (not_refused study text g r)
  over_study run text P study g (study_given s h p) = subst P (one_study s study h g) p

-- where the clauses are refused, their line is said
pub clauses_row : (study : Question) (fault : GroundFault) (run : Run) (text : List ℕ) (P : Type 0) → clauses_fault study ≡ Some fault → OverClauses study run text P
    → (run.status ≡ 3) × (text ≡ refusal_line study fault)
clauses_row study fault run text P is (clauses_refused other e t bare) = (bare.ends, t ∙ ap (refusal_line study) (some_same (clauses_fault study) other fault e is))
clauses_row study fault run text P is (clauses_made none p) = let no : None ≡ Some fault = sym none ∙ is in absurd (cc)

-- where a run does not end with status 3, the rest holds of the clauses
pub past_clauses : (study : Question) (run : Run) (text : List ℕ) (P : Type 0) → (IsBare run 3 → ⊥) → OverClauses study run text P → P
past_clauses study run text P other (clauses_refused fault e t bare) = absurd (other bare)
past_clauses study run text P other (clauses_made e p) = p

pub not_three : (run : Run) → run.status ≡ 0 → IsBare run 3 → ⊥
not_three run zero_is bare = let three : 0 ≡ 3 = sym zero_is ∙ bare.ends in omega (arith, three)

-- where a run ends with status 0 over a file that gives a study, neither is refused
pub granted : (files : Files) (name : List ℕ) (run : Run) (text : List ℕ) (P : Question → Type 0) (study : Question) → GivesStudy files name study → run.status ≡ 0
    → OverStudy files name run text (λ s. OverClauses s run text (P s)) → P study
granted files name run text P study g zero_is row =
    past_clauses study run text (P study) (not_three run zero_is) (over_study files name run text (λ s. OverClauses s run text (P s)) study g row)

-- a file gives one list of clauses
pub one_formula : (files : Files) (name : List ℕ) (f f' : Formula) → GivesFormula files name f → GivesFormula files name f' → f ≡ f'
one_formula files name f f' g g' =
    let same : g.bytes ≡ g'.bytes = some_same (files name) g.bytes g'.bytes g.holds.held g'.holds.held in
    let both : Ok f ≡ Ok f' = sym g.read ∙ ap read_dimacs same ∙ g'.read in
    cc

-- a refusal other than want of memory is the one of the clauses
pub refusal_is : (fault : GroundFault) (wanted : Option GroundFault) → fault ≢ NoMemory → IsRefused fault wanted → wanted ≡ Some fault
refusal_is (Wide place instance counts) wanted known is = is
refusal_is (Full place) wanted known is = is
refusal_is NoMemory wanted known is = absurd (known refl)
