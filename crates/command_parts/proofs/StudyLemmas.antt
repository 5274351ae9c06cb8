-- Commands over the study of a file, from what each part promises to what the command does.
use Rattle.std.proofs.Common.{◌≡◌, ◌∙◌, sym, refl, subst, cond, ℕ, ◌≤◌, Bool, true, false, List, [], ◌∷◌, Option, Result, Ok, Err, IfOk, IsErrOf}
use Rattle.std.specs.Prelude.{◌≢◌, ◌==◌, Contains}
use Rattle.std.specs.List.{list_any}
use Rattle.edge.specs.Shelf.{Files, OthersStay}
use Rattle.edge.specs.Faults.{Rose}
use Rattle.vocab.specs.Study.{Question}
use Rattle.words.specs.Words.{Request}
use Rattle.answers.specs.declared.runs.Run.{Run}
use Rattle.answers.specs.Studies.{GivesStudy, OverStudy, study_refused, study_given}
use Rattle.answers.specs.Grounding.{OverClauses, clauses_refused, clauses_made}
use Rattle.answers.specs.Lawful.{IsBenchAnswer}
use Rattle.answers.specs.Call.{AreFiles, are_told, none_read, at_first, files_of, statuses_of, touched_at}
use Rattle.answers.proofs.AmongLemmas.{found_among, not_first}
use Rattle.command_parts.specs.declared.answer.Answer.{Answer}
use Rattle.command_parts.specs.declared.answer.Stop.{Stop}
use Rattle.command_parts.specs.declared.answer.Stop.TheVariants as stop
use Rattle.command_parts.specs.declared.studies.Opened.{Opened}
use Rattle.command_parts.specs.Answers.{HasText, run_of, answer_status, text_of}
use Rattle.command_parts.specs.Answered.{Answers}
use Rattle.command_parts.specs.Opened.{IsStudyRead, Refuses}
use Rattle.command_parts.proofs.AnswerLemmas.{may_want_memory}

-- ---- names

-- of one file the status takes none away
pub touched_one : (s : ℕ) (name : List ℕ) → touched_at s (name ∷ []) ≡ name ∷ []
touched_one s name = go (s == 3)
  where
    go : (b : Bool) → cond b (name ∷ []) (name ∷ []) ≡ name ∷ []
    go true = refl
    go false = refl

-- the one file of a command is read: what is left of the others stays
one_file : (s : ℕ) (name : List ℕ) (before now : Files) → OthersStay before now name → (other : List ℕ)
    → ¬ Contains (touched_at s (name ∷ [])) other → now other ≡ before other
one_file s name before now others other free =
    others other (not_first other name [] (subst (λ (names : List (List ℕ)). ¬ Contains names other) (touched_one s name) free))

-- ---- statuses

-- a status of a command that is below 5
abbrev pub IsLow : Option Request → ℕ → Type 0
IsLow request s = Contains (statuses_of request) s × (s ≤ 4)

pub low_among : (request : Option Request) (s : ℕ) → list_any (λ n. n == s) (statuses_of request) ≡ true → s ≤ 4 → IsLow request s
low_among request s found low = (found_among (statuses_of request) s found, low)

pub low_at : (request : Option Request) (s status : ℕ) → status ≡ s → IsLow request s → IsLow request status
low_at request s status e h = subst (IsLow request) (sym e) h

-- clauses are refused with status 3, or the rest has its statuses
pub over_low : (request : Option Request) (study : Question) (run : Run) (text : List ℕ) (P : Type 0) → IsLow request 3 → (P → IsLow request run.status)
    → OverClauses study run text P → IsLow request run.status
over_low request study run text P three rest (clauses_refused fault e t bare) = low_at request 3 run.status bare.ends three
over_low request study run text P three rest (clauses_made e p) = rest p

-- ---- commands over the study of one file

-- a command reads this file alone, and its row is a study that is refused, or one of which the rest holds
pub record IsStudyCommand (request : Option Request) (name : List ℕ) (IsRest : Question → Run → List ℕ → Type 0) : Type 0 where
  pub one : files_of request ≡ name ∷ []
  pub into : (files : Files) (run : Run) (text : List ℕ) → OverStudy files name run text (λ study. IsRest study run text) → IsBenchAnswer request files run text
  pub can_refuse : IsLow request 3
  pub can_fail : Contains (statuses_of request) 5
  pub ends : (study : Question) (run : Run) (text : List ℕ) → IsRest study run text → IsLow request run.status

-- the study as the table has it
module _ (told : Option Files) (name : List ℕ) where
  given : (study : Question) → IsStudyRead told name study → (files : Files) → AreFiles told (name ∷ []) files → GivesStudy files name study
  given study read files (are_told e) = record { bytes = read.bytes; holds = record { held = read.held files e; fits = read.fits }; read = read.gives }
  given study read files (none_read e) = absurd (cc)

  refusal : (answer : Answer) (P : Question → Type 0) → Refuses told name answer → (files : Files) → AreFiles told (name ∷ []) files
      → OverStudy files name (run_of answer) (text_of answer) P
  refusal answer P refuses files (are_told e) = study_refused (refuses.line files e) refuses.bare
  refusal answer P refuses files (none_read e) = absurd (cc)

module _ (request : Option Request) (name : List ℕ) (IsRest : Question → Run → List ℕ → Type 0) (command : IsStudyCommand request name IsRest)
    (told : Option Files) (left_before left_now : Files) (faults_before faults_now : List ℕ → ℕ) (others : OthersStay left_before left_now name) where
  abbrev Promised : Result Answer Stop → Type 0
  Promised result = Answers request told left_before left_now faults_before faults_now result

  files_are : (files : Files) → AreFiles told (files_of request) files → AreFiles told (name ∷ []) files
  files_are files h = subst (λ (names : List (List ℕ)). AreFiles told names files) command.one h

  others_stay : (s : ℕ) (other : List ℕ) → ¬ Contains (touched_at s (files_of request)) other → left_now other ≡ left_before other
  others_stay s other free =
      one_file s name left_before left_now others other
      (subst (λ (names : List (List ℕ)). ¬ Contains (touched_at s names) other) command.one free)

  reads_one : files_of request ≡ [] → ⊥
  reads_one e = let no : name ∷ [] ≡ [] = sym command.one ∙ e in cc

  ended : (answer : Answer) → IsLow request (answer_status answer) → HasText answer
      → ((files : Files) → AreFiles told (name ∷ []) files → IsBenchAnswer request files (run_of answer) (text_of answer)) → Promised (Ok answer)
  ended answer low has_text row = record {
    lawful = λ files h. row files (files_are files h);
    status = low.0;
    low = low.1;
    has_text = has_text;
    read_fault = λ e. absurd (cc);
    untouched = others_stay (answer_status answer);
    uncounted = λ e. absurd (reads_one e);
  }

  wanting : Promised (Err stop.NoMemory)
  wanting = record {
    lawful = λ files h. tt;
    status = may_want_memory request;
    low = tt;
    has_text = tt;
    read_fault = λ e. absurd (cc);
    untouched = others_stay 7;
    uncounted = λ e. absurd (reads_one e);
  }

  -- the study was read, and the rest holds of the answer
  pub study_answer : (study : Question) (result : Result Answer Stop) → IsStudyRead told name study
      → IfOk result (λ answer. IsRest study (run_of answer) (text_of answer)) → IfOk result HasText → result ≢ Err stop.ReadFault → Promised result
  study_answer study (Ok answer) read rest has_text none =
      ended answer (command.ends study (run_of answer) (text_of answer) rest) has_text
      (λ files h. command.into files (run_of answer) (text_of answer) (study_given study (given told name study read files h) rest))
  study_answer study (Err stop.ReadFault) read rest has_text none = absurd (none refl)
  study_answer study (Err stop.NoMemory) read rest has_text none = wanting

  -- the study is refused
  pub refused_study : (answer : Answer) → Refuses told name answer → Promised (Ok answer)
  refused_study answer refuses =
      ended answer (low_at request 3 (answer_status answer) refuses.bare.ends command.can_refuse) refuses.has_text
      (λ files h. command.into files (run_of answer) (text_of answer) (refusal told name answer (λ study. IsRest study (run_of answer) (text_of answer)) refuses files h))

  -- or could not be read
  pub stopped_study : (e : Stop) → (IsErrOf {T = Opened} (Err e) stop.ReadFault → Rose (faults_before name) (faults_now name)) → Promised (Err e)
  stopped_study stop.ReadFault rose = record {
    lawful = λ files h. tt;
    status = command.can_fail;
    low = tt;
    has_text = tt;
    read_fault = λ e. at_first name [] command.one (rose refl) others;
    untouched = others_stay 5;
    uncounted = λ e. absurd (reads_one e);
  }
  stopped_study stop.NoMemory rose = wanting
