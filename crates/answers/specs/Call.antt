-- What each call of the bench promises, whatever the words and the devices. The fields of `IsCall` stay as
-- commands are added.
use Rattle.std.specs.Prelude.{◌≡◌, ℕ, ◌≤◌, ◌==◌, ◌⊎◌, List, [], ◌∷◌, take, Contains, Option, None, Some, IfSome, if◌then◌else◌}
use Rattle.std.specs.Io.KnownBytes.{Appends, Keeps}
use Rattle.edge.specs.Shelf.{Files, OthersStay}
use Rattle.edge.specs.Faults.{Rose}
use Rattle.edge.specs.Told.{AppendsPrefix}
use Rattle.vocab.specs.declared.kinds.Kind.TheVariants.{Sets}
use Rattle.vocab.specs.Study.{Question}
use Rattle.clause_text.specs.ReadDimacs.{Formula}
use Rattle.words.specs.Words.{Request, Decide, Check, Export, Proof, Lrat, Axioms, Sample, Adopt, Gain, Sharpen, request_of}
use Rattle.answers.specs.declared.runs.Run.{Run}
use Rattle.answers.specs.Runs.{with_status}
use Rattle.answers.specs.Studies.{GivesStudy}
use Rattle.answers.specs.Grounding.{clauses_fault}
use Rattle.answers.specs.Lrat.{GivesFormula}
use Rattle.answers.specs.Lawful.{Lawful}
use Rattle.answers.specs.Devices.{Devices}

-- ---- what a command may touch and answer

-- the names of the files of a command, in the order in which they are read
abbrev pub files_of : Option Request → List (List ℕ)
files_of None = []
files_of (Some (Decide study workers)) = study ∷ []
files_of (Some (Check study report workers)) = study ∷ report ∷ []
files_of (Some (Export study workers)) = study ∷ []
files_of (Some (Proof study workers)) = study ∷ []
files_of (Some (Lrat cnf proof)) = cnf ∷ proof ∷ []
files_of (Some (Axioms kind)) = []
files_of (Some (Sample number)) = []
files_of (Some (Adopt study proof workers)) = study ∷ proof ∷ []
files_of (Some (Gain study report)) = study ∷ report ∷ []
files_of (Some (Sharpen study workers)) = study ∷ []

-- the statuses of a command
abbrev pub statuses_of : Option Request → List ℕ
statuses_of None = 2 ∷ 6 ∷ 7 ∷ []
statuses_of (Some (Decide study workers)) = 0 ∷ 3 ∷ 4 ∷ 5 ∷ 6 ∷ 7 ∷ []
statuses_of (Some (Check study report workers)) = 0 ∷ 1 ∷ 3 ∷ 5 ∷ 6 ∷ 7 ∷ []
statuses_of (Some (Export study workers)) = 0 ∷ 3 ∷ 5 ∷ 6 ∷ 7 ∷ []
statuses_of (Some (Proof study workers)) = 0 ∷ 3 ∷ 4 ∷ 5 ∷ 6 ∷ 7 ∷ []
statuses_of (Some (Lrat cnf proof)) = 0 ∷ 1 ∷ 3 ∷ 5 ∷ 6 ∷ 7 ∷ []
statuses_of (Some (Axioms kind)) = 0 ∷ 6 ∷ 7 ∷ []
statuses_of (Some (Sample number)) = 0 ∷ 3 ∷ 4 ∷ 6 ∷ 7 ∷ []
statuses_of (Some (Adopt study proof workers)) = 0 ∷ 1 ∷ 3 ∷ 5 ∷ 6 ∷ 7 ∷ []
statuses_of (Some (Gain study report)) = 0 ∷ 1 ∷ 3 ∷ 5 ∷ 6 ∷ 7 ∷ []
statuses_of (Some (Sharpen study workers)) = 0 ∷ 3 ∷ 4 ∷ 5 ∷ 6 ∷ 7 ∷ []

-- the files that a command may touch, by its status: at 3 its first file alone
abbrev pub touched_at : ℕ → List (List ℕ) → List (List ℕ)
touched_at status names = if status == 3 then take 1 names else names

-- files that a command may not touch at a status keep what was left of them
abbrev pub AreUntouched : ℕ → List (List ℕ) → (before now : Files) → Type 0
AreUntouched status names before now =
    (name : List ℕ) → ¬ Contains (touched_at status names) name → now name ≡ before name

-- the first of two files is not refused, nor are the clauses that `adopt` makes of it; and for `gain` its kind is
-- that of sets
abbrev pub IsFirstTaken : Option Request → Files → List ℕ → Type 0
IsFirstTaken (Some (Lrat cnf proof)) files name = (formula : Formula) × GivesFormula files name formula
IsFirstTaken (Some (Adopt study proof workers)) files name =
    (study : Question) × GivesStudy files name study × (clauses_fault study ≡ None)
IsFirstTaken (Some (Gain study report)) files name =
    (study : Question) × GivesStudy files name study × (study.size.kind ≡ Sets)
IsFirstTaken request files name = (study : Question) × GivesStudy files name study

-- ---- the promises

-- the files of the table: those that the shelf tells, and whatever files where the command reads none
pub data AreFiles (told : Option Files) (names : List (List ℕ)) (files : Files) : Type 0 where
  are_told : told ≡ Some files → AreFiles told names files
  none_read : names ≡ [] → AreFiles told names files

-- a fault has its cause at the first file, and then no other was touched, or at the second where the first is
-- taken
pub data HasReadCause (request : Option Request) (told : Option Files) (left_before left_now : Files)
    (faults_before faults_now : List ℕ → ℕ) (names : List (List ℕ)) : Type 0 where
  at_first : (name : List ℕ) (others : List (List ℕ)) → names ≡ name ∷ others
      → Rose (faults_before name) (faults_now name) → OthersStay left_before left_now name
      → HasReadCause request told left_before left_now faults_before faults_now names
  at_second : (name second : List ℕ) → names ≡ name ∷ second ∷ []
      → Rose (faults_before second) (faults_now second)
      → IfSome told (λ files. IsFirstTaken request files name)
      → HasReadCause request told left_before left_now faults_before faults_now names

module _ (words : List (List ℕ)) (d : Devices) (files : Files) (run : Run) where
  -- the text of a lawful answer was written
  pub record IsAnswered : Type 0 where
    pub text : List ℕ
    pub lawful : Lawful words files run text
    pub written : Appends d.taken_before d.taken_now text

  -- a front of the text of a lawful answer was written, nothing or all of it too; that answer has the verdict, the logs and the sharpening
  -- of the run; and no file was touched that it leaves alone
  pub record IsAnsweredInPart : Type 0 where
    pub status : ℕ
    pub text : List ℕ
    pub lawful : Lawful words files (with_status status run) text
    pub written : AppendsPrefix d.taken_before d.taken_now text
    pub untouched : AreUntouched status (files_of (request_of words)) d.left_before d.left_now

-- nothing was written, and no search and nothing sharp is told of
pub record IsSilent (run : Run) (before now : Option (List ℕ)) : Type 0 where
  pub kept : Keeps before now
  pub no_verdict : run.verdict ≡ None
  pub no_logs : run.logs ≡ []
  pub no_sharp : run.sharp ≡ None

-- what a call promises: its status and its answer, what was written, the causes of faults, and the files that
-- stay as they were
pub record IsCall (words : List (List ℕ)) (d : Devices) (run : Run) : Type 0 where
  -- the status is one of the command's
  pub status : Contains (statuses_of (request_of words)) run.status
  -- below 5 the answer is lawful, and its text was written
  pub lawful : (files : Files) → AreFiles d.told (files_of (request_of words)) files → run.status ≤ 4
      → IsAnswered words d files run
  -- at 6 a front of it was
  pub cut_short : (files : Files) → AreFiles d.told (files_of (request_of words)) files → run.status ≡ 6
      → IsAnsweredInPart words d files run
  -- at 5 and 7 nothing was
  pub silent : (run.status ≡ 5) ⊎ (run.status ≡ 7) → IsSilent run d.taken_before d.taken_now
  -- 5 and 6 have their causes
  pub read_fault : run.status ≡ 5 → HasReadCause (request_of words) d.told d.left_before d.left_now
      d.faults_before d.faults_now (files_of (request_of words))
  pub write_fault : run.status ≡ 6 → Rose d.sink_faults_before d.sink_faults_now
  -- what is left of each other file stays; and where no file is read, no count of faults rose
  pub untouched : AreUntouched run.status (files_of (request_of words)) d.left_before d.left_now
  pub uncounted : files_of (request_of words) ≡ [] → (name : List ℕ)
      → d.faults_now name ≡ d.faults_before name
