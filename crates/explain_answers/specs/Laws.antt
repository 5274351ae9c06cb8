-- What holds of calls of `explain`. Each is proved as the contract of a function of the same name in src/laws.rt.
use Rattle.std.specs.Prelude.{◌≡◌, ◌≢◌, ◌≤◌, ◌⊎◌, ℕ, List, ◌++◌, length, codes, None, Some, Err}
use Rattle.std.specs.Io.KnownBytes.{Appends}
use Rattle.edge.specs.Shelf.{Files}
use Rattle.vocab.specs.Study.{Question}
use Rattle.study.specs.declared.faults.StudyFault.{StudyFault}
use Rattle.study.specs.Reading.{IsStudyOf}
use Rattle.clause_form.specs.declared.refusals.GroundFault.{GroundFault}
use Rattle.verdicts.specs.declared.verdicts.Verdict.{Verdict}
use Rattle.verdicts.specs.Report.{IsReport}
use Rattle.sharp_verdicts.specs.Right.{Pointed}
use Rattle.sharp_laws.specs.Laws.{IsSharpText}
use Rattle.answers.specs.Check.{IsChecked}
use Rattle.answers.specs.Devices.{Devices}
use Rattle.answers.specs.FileLimits.{most_report_bytes, most_study_bytes, HasFile, HoldsTooMany}
use Rattle.answers.specs.Grounding.{clauses_fault, refusal_line}
use Rattle.answers.specs.StudyLines.{study_line}
use Rattle.answers.specs.Studies.{GivesStudy}
use Rattle.explain_words.specs.Words.{Story, Instance, Rules, Cores, Look, request_of}
use Rattle.instance_text.specs.Said.{is_there, said}
use Rattle.study_help.specs.Help.{IsHelp}
use Rattle.study_text.specs.LookText.{study_text}
use Rattle.explain_answers.specs.Cores.{IsMapped}
use Rattle.explain_answers.specs.Instance.{IsInstanceSaid, instance_status}
use Rattle.explain_answers.specs.Look.{IsLooked}
use Rattle.explain_answers.specs.Page.{IsPageText, IsSharpPageText}
use Rattle.explain_answers.specs.Rules.{IsRuleListWritten}
use Rattle.explain_answers.specs.Story.{bare_run}
use Rattle.explain_answers.specs.Lawful.{ExplainsWords}
use Rattle.explain_answers.specs.Call.{IsExplainCall}

-- the text is a page of a right verdict, whose report the bytes are, within the limit
pub record IsReportPage (study : Question) (name report bytes text : List ℕ) : Type 0 where
  pub verdict : Verdict
  pub right : IsReport study verdict bytes
  pub fits : length bytes ≤ most_report_bytes
  pub page : IsPageText study name report verdict text

-- the text is a page of a right sharp verdict, whose text the bytes are, within the limit
pub record IsPageOfSharp (study : Question) (name report bytes text : List ℕ) : Type 0 where
  pub verdict : Pointed
  pub right : IsSharpText study verdict bytes
  pub fits : length bytes ≤ most_report_bytes
  pub page : IsSharpPageText study name report verdict text

-- the text is a page of a right verdict or of a right sharp verdict
abbrev pub IsPageOf : Question → (name report bytes text : List ℕ) → Type 0
IsPageOf study name report bytes text = IsReportPage study name report bytes text ⊎ IsPageOfSharp study name report bytes text

-- of a study that a file gives, and of the bytes of the report or sharp text: a page is one of a right verdict, and each right
-- verdict has one; of others the text and the status are what `check` says
pub record IsPageExact (files : Files) (name report : List ℕ) (study : Question) (bytes : List ℕ) (status : ℕ) (text : List ℕ)
    : Type 0 where
  pub right : status ≡ 0 → IsPageOf study name report bytes text
  pub all : (verdict : Verdict) → IsReport study verdict bytes → length bytes ≤ most_report_bytes
      → (status ≡ 0) × IsPageText study name report verdict text
  pub all_sharp : (v : Pointed) → IsSharpText study v bytes → length bytes ≤ most_report_bytes
      → (status ≡ 0) × IsSharpPageText study name report v text
  pub refused : status ≢ 0 → IsChecked files name report (bare_run status) text

-- a page is written exactly where `check` confirms the text
abbrev pub PagesAreExact : Type 0
PagesAreExact =
    (words : List (List ℕ)) (files : Files) (status workers : ℕ) (text name report bytes : List ℕ) (study : Question) →
    ExplainsWords words files status text → request_of words ≡ Some (Story name report workers) → GivesStudy files name study →
    files report ≡ Some bytes → IsPageExact files name report study bytes status text

-- so over devices: at status 0 the sink took a page of a right verdict; and where the text is the report of one, or a sharp
-- text, it takes a page of it, faults and want of memory aside
pub record IsPageWritten (d : Devices) (study : Question) (name report bytes : List ℕ) (status : ℕ) : Type 0 where
  pub right : status ≡ 0 → (text : List ℕ) × IsPageOf study name report bytes text × Appends d.taken_before d.taken_now text
  pub all : status ≤ 4 → (verdict : Verdict) → IsReport study verdict bytes → length bytes ≤ most_report_bytes
      → (status ≡ 0) × (text : List ℕ) × IsPageText study name report verdict text × Appends d.taken_before d.taken_now text
  pub all_sharp : status ≤ 4 → (v : Pointed) → IsSharpText study v bytes → length bytes ≤ most_report_bytes
      → (status ≡ 0) × (text : List ℕ) × IsSharpPageText study name report v text × Appends d.taken_before d.taken_now text

abbrev pub PagesAreWritten : Type 0
PagesAreWritten =
    (words : List (List ℕ)) (d : Devices) (files : Files) (status workers : ℕ) (name report bytes : List ℕ) (study : Question) →
    IsExplainCall words d status → d.told ≡ Some files → request_of words ≡ Some (Story name report workers) →
    GivesStudy files name study → files report ≡ Some bytes → IsPageWritten d study name report bytes status

-- of a study that a file gives: an instance of it is told, or it is said why there is none
abbrev pub InstancesAreExact : Type 0
InstancesAreExact =
    (words : List (List ℕ)) (files : Files) (status number : ℕ) (text name axiom_name : List ℕ) (study : Question) →
    ExplainsWords words files status text → request_of words ≡ Some (Instance name axiom_name number) →
    GivesStudy files name study → IsInstanceSaid study axiom_name number status text

-- so over devices: the sink takes it, faults and want of memory aside
abbrev pub InstancesAreWritten : Type 0
InstancesAreWritten =
    (words : List (List ℕ)) (d : Devices) (files : Files) (status number : ℕ) (name axiom_name : List ℕ) (study : Question) →
    IsExplainCall words d status → d.told ≡ Some files → request_of words ≡ Some (Instance name axiom_name number) →
    GivesStudy files name study → status ≤ 4 →
    (status ≡ instance_status (is_there study axiom_name number)) × Appends d.taken_before d.taken_now (said study axiom_name number)

-- of a study that a file gives, whose clauses are not refused, a right list of rules is written: with `rules COUNT` at its
-- end each rule that satisfies the axioms is among them
abbrev pub RulesAreExact : Type 0
RulesAreExact =
    (words : List (List ℕ)) (files : Files) (status most workers : ℕ) (text name : List ℕ) (study : Question) →
    ExplainsWords words files status text → request_of words ≡ Some (Rules name most workers) →
    GivesStudy files name study → clauses_fault study ≡ None → IsRuleListWritten study most status text

-- so over devices: the sink takes such a list, faults and want of memory aside
abbrev pub RulesAreWritten : Type 0
RulesAreWritten =
    (words : List (List ℕ)) (d : Devices) (files : Files) (status most workers : ℕ) (name : List ℕ) (study : Question) →
    IsExplainCall words d status → d.told ≡ Some files → request_of words ≡ Some (Rules name most workers) →
    GivesStudy files name study → clauses_fault study ≡ None → status ≤ 4 →
    (text : List ℕ) × IsRuleListWritten study most status text × Appends d.taken_before d.taken_now text

-- of a study that a file gives, whose clauses are not refused, a right map of its axioms is written: where it is whole and
-- has no open set, it tells of each set of them whether some rule of the size satisfies it
abbrev pub CoresAreExact : Type 0
CoresAreExact =
    (words : List (List ℕ)) (files : Files) (status workers : ℕ) (text name : List ℕ) (study : Question) →
    ExplainsWords words files status text → request_of words ≡ Some (Cores name workers) →
    GivesStudy files name study → clauses_fault study ≡ None → IsMapped study status text

-- so over devices: the sink takes such a map, faults and want of memory aside
abbrev pub CoresAreWritten : Type 0
CoresAreWritten =
    (words : List (List ℕ)) (d : Devices) (files : Files) (status workers : ℕ) (name : List ℕ) (study : Question) →
    IsExplainCall words d status → d.told ≡ Some files → request_of words ≡ Some (Cores name workers) →
    GivesStudy files name study → clauses_fault study ≡ None → status ≤ 4 →
    (text : List ℕ) × IsMapped study status text × Appends d.taken_before d.taken_now text

-- of a study that a file gives it is told what it asks, or its clauses are refused as `decide` refuses them; and of a file
-- that gives none the line of `decide` is written, and what helps behind it, but where the file is too long
pub record IsLookExact (files : Files) (name : List ℕ) (status : ℕ) (text : List ℕ) : Type 0 where
  pub given : (study : Question) → GivesStudy files name study → clauses_fault study ≡ None → IsLooked study status text
  pub over : (study : Question) (fault : GroundFault) → GivesStudy files name study → clauses_fault study ≡ Some fault
      → (status ≡ 3) × (text ≡ refusal_line study fault)
  pub refused : (bytes : List ℕ) (fault : StudyFault) → HasFile files most_study_bytes name bytes → IsStudyOf bytes (Err fault)
      → (status ≡ 3) × (help : List ℕ) × IsHelp bytes fault help × (text ≡ study_line fault ++ help)
  pub long : HoldsTooMany files most_study_bytes name → (status ≡ 3) × (text ≡ codes "study: too long\n")

abbrev pub LooksAreExact : Type 0
LooksAreExact =
    (words : List (List ℕ)) (files : Files) (status workers : ℕ) (text name : List ℕ) →
    ExplainsWords words files status text → request_of words ≡ Some (Look name workers) → IsLookExact files name status text

-- so over devices: the sink takes it, faults and want of memory aside
pub record IsLookWritten (d : Devices) (files : Files) (name : List ℕ) (status : ℕ) : Type 0 where
  pub given : (study : Question) → GivesStudy files name study → clauses_fault study ≡ None
      → (status ≡ 0) × Appends d.taken_before d.taken_now (study_text study)
  pub over : (study : Question) (fault : GroundFault) → GivesStudy files name study → clauses_fault study ≡ Some fault
      → (status ≡ 3) × Appends d.taken_before d.taken_now (refusal_line study fault)
  pub refused : (bytes : List ℕ) (fault : StudyFault) → HasFile files most_study_bytes name bytes → IsStudyOf bytes (Err fault)
      → (status ≡ 3) × (help : List ℕ) × IsHelp bytes fault help × Appends d.taken_before d.taken_now (study_line fault ++ help)
  pub long : HoldsTooMany files most_study_bytes name
      → (status ≡ 3) × Appends d.taken_before d.taken_now (codes "study: too long\n")

abbrev pub LooksAreWritten : Type 0
LooksAreWritten =
    (words : List (List ℕ)) (d : Devices) (files : Files) (status workers : ℕ) (name : List ℕ) →
    IsExplainCall words d status → d.told ≡ Some files → request_of words ≡ Some (Look name workers) → status ≤ 4 →
    IsLookWritten d files name status
