-- What each call of `explain` promises, whatever the words and the devices. The fields of `IsExplainCall` stay as commands are
-- added.
use Rattle.std.specs.Prelude.{◌≡◌, ℕ, ◌≤◌, ◌⊎◌, List, [], ◌∷◌, Contains, Option, None, Some, IfSome}
use Rattle.std.specs.Io.KnownBytes.{Appends, Keeps}
use Rattle.edge.specs.Shelf.{Files, OthersStay}
use Rattle.edge.specs.Faults.{Rose}
use Rattle.edge.specs.Told.{AppendsPrefix}
use Rattle.vocab.specs.Study.{Question}
use Rattle.answers.specs.Studies.{GivesStudy}
use Rattle.answers.specs.Call.{AreFiles, AreUntouched}
use Rattle.answers.specs.Devices.{Devices}
use Rattle.explain_words.specs.Words.{ExplainRequest, Story, Instance, Rules, Cores, Look, request_of}
use Rattle.explain_answers.specs.Lawful.{ExplainsWords}

-- ---- what a command may touch and answer

-- the names of the files of a command, in the order in which they are read
abbrev pub explain_files : Option ExplainRequest → List (List ℕ)
explain_files None = []
explain_files (Some (Story study report workers)) = study ∷ report ∷ []
explain_files (Some (Instance study axiom_name number)) = study ∷ []
explain_files (Some (Rules study most workers)) = study ∷ []
explain_files (Some (Cores study workers)) = study ∷ []
explain_files (Some (Look study workers)) = study ∷ []

-- the statuses of a command; those of `story` are those of `check`
abbrev pub explain_statuses : Option ExplainRequest → List ℕ
explain_statuses None = 2 ∷ 6 ∷ 7 ∷ []
explain_statuses (Some (Story study report workers)) = 0 ∷ 1 ∷ 3 ∷ 5 ∷ 6 ∷ 7 ∷ []
explain_statuses (Some (Instance study axiom_name number)) = 0 ∷ 3 ∷ 5 ∷ 6 ∷ 7 ∷ []
explain_statuses (Some (Rules study most workers)) = 0 ∷ 3 ∷ 4 ∷ 5 ∷ 6 ∷ 7 ∷ []
explain_statuses (Some (Cores study workers)) = 0 ∷ 3 ∷ 4 ∷ 5 ∷ 6 ∷ 7 ∷ []
explain_statuses (Some (Look study workers)) = 0 ∷ 3 ∷ 5 ∷ 6 ∷ 7 ∷ []

-- ---- the promises

-- a fault has its cause at the file of the study, and then no other was touched, or at the report where the study is given
pub data HasCauseAtFile (told : Option Files) (left_before left_now : Files) (faults_before faults_now : List ℕ → ℕ)
    (names : List (List ℕ)) : Type 0 where
  at_study : (name : List ℕ) (others : List (List ℕ)) → names ≡ name ∷ others
      → Rose (faults_before name) (faults_now name) → OthersStay left_before left_now name
      → HasCauseAtFile told left_before left_now faults_before faults_now names
  at_report : (name report : List ℕ) → names ≡ name ∷ report ∷ []
      → Rose (faults_before report) (faults_now report)
      → IfSome told (λ files. (study : Question) × GivesStudy files name study)
      → HasCauseAtFile told left_before left_now faults_before faults_now names

module _ (words : List (List ℕ)) (d : Devices) (files : Files) where
  -- the text of a lawful answer was written
  pub record IsExplained (status : ℕ) : Type 0 where
    pub text : List ℕ
    pub lawful : ExplainsWords words files status text
    pub written : Appends d.taken_before d.taken_now text

  -- a front of the text of a lawful answer was written, nothing or all of it too; and no file was touched that the answer leaves alone
  pub record IsExplainedInPart : Type 0 where
    pub status : ℕ
    pub text : List ℕ
    pub lawful : ExplainsWords words files status text
    pub written : AppendsPrefix d.taken_before d.taken_now text
    pub untouched : AreUntouched status (explain_files (request_of words)) d.left_before d.left_now

-- what a call promises: its status and its answer, what was written, the causes of faults, and the files that stay as they
-- were
pub record IsExplainCall (words : List (List ℕ)) (d : Devices) (status : ℕ) : Type 0 where
  -- the status is one of the command's
  pub known : Contains (explain_statuses (request_of words)) status
  -- below 5 the answer is lawful, and its text was written
  pub lawful : (files : Files) → AreFiles d.told (explain_files (request_of words)) files → status ≤ 4
      → IsExplained words d files status
  -- at 6 a front of it was
  pub cut_short : (files : Files) → AreFiles d.told (explain_files (request_of words)) files → status ≡ 6
      → IsExplainedInPart words d files
  -- at 5 and 7 nothing was
  pub silent : (status ≡ 5) ⊎ (status ≡ 7) → Keeps d.taken_before d.taken_now
  -- 5 and 6 have their causes
  pub read_fault : status ≡ 5 → HasCauseAtFile d.told d.left_before d.left_now
      d.faults_before d.faults_now (explain_files (request_of words))
  pub write_fault : status ≡ 6 → Rose d.sink_faults_before d.sink_faults_now
  -- what is left of each other file stays; and where no file is read, no count of faults rose
  pub untouched : AreUntouched status (explain_files (request_of words)) d.left_before d.left_now
  pub uncounted : explain_files (request_of words) ≡ [] → (name : List ℕ)
      → d.faults_now name ≡ d.faults_before name
