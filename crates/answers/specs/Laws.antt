-- What follows from the table of answers. Each is proved as the contract of a function of the same name in
-- src/laws.rt.
use Rattle.std.specs.Prelude.{◌≡◌, ◌≢◌, ℕ, ◌≤◌, ◌⊎◌, ◌↔◌, List, [], ◌∷◌, length, codes, Option, None, Some, IsFalse}
use Rattle.std.specs.Io.KnownBytes.{Appends}
use Rattle.vocab.specs.declared.kinds.Kind.{Kind}
use Rattle.vocab.specs.declared.kinds.Kind.TheVariants.{Sets}
use Rattle.edge.specs.Shelf.{Files, OthersStay}
use Rattle.edge.specs.Faults.{Rose}
use Rattle.edge.specs.Told.{AppendsPrefix}
use Rattle.vocab.specs.Study.{Question}
use Rattle.verdicts.specs.declared.verdicts.Verdict.{Verdict}
use Rattle.verdicts.specs.Report.{IsReport, IsSomeReport}
use Rattle.verdicts.specs.FirstFault.{Confirmed}
use Rattle.verdicts.specs.Words.{answer_text}
use Rattle.words.specs.Words.{Request, Decide, Check, Export, Proof, Lrat, Axioms, Sample, Adopt, Gain, Sharpen, request_of}
use Rattle.sharp_verdicts.specs.Judged.{judged_text}
use Rattle.sharp_verdicts.specs.Right.{Pointed}
use Rattle.sharp_verdicts.specs.Totals.{passes_clause_limits, total}
use Rattle.sharp_laws.specs.Laws.{IsSharpText, SharpClaims}
use Rattle.answers.specs.declared.runs.Run.{Run}
use Rattle.answers.specs.FileLimits.{most_report_bytes, most_proof_bytes, HasFile}
use Rattle.clause_text.specs.ReadDimacs.{Formula}
use Rattle.samples.specs.Sample.{IsSampleStudy}
use Rattle.answers.specs.Studies.{GivesStudy, RefusesStudy}
use Rattle.answers.specs.Grounding.{clauses_fault}
use Rattle.answers.specs.Export.{exported_formula}
use Rattle.answers.specs.Lrat.{GivesFormula, said_of}
use Rattle.verdicts.specs.Claims.{Claims}
use Rattle.answers.specs.Usage.{usage_line}
use Rattle.answers.specs.Check.{judged, judged_status}
use Rattle.answers.specs.Axioms.{library_text}
use Rattle.answers.specs.Lawful.{Lawful}
use Rattle.answers.specs.Devices.{Devices}
use Rattle.answers.specs.Call.{IsCall, IsFirstTaken, files_of}

-- the run has this status, and this text was written
abbrev pub Says : Devices → Run → ℕ → List ℕ → Type 0
Says d run status text = (run.status ≡ status) × Appends d.taken_before d.taken_now text

-- ---- `check`

-- the line for a sharp text that is confirmed
abbrev pub confirmed_sharp_line : List ℕ
confirmed_sharp_line = codes "confirmed sharp\n"

-- the bytes are the report of a right verdict that claims something, or the text of a right sharp verdict
abbrev pub IsRightText : Question → List ℕ → Type 0
IsRightText study bytes = IsSomeReport study bytes ⊎ ((v : Pointed) × IsSharpText study v bytes)

-- `check` confirms exactly the reports of right verdicts that claim something and the texts of right sharp verdicts,
-- within the limit
abbrev pub CheckedAreRight : Type 0
CheckedAreRight =
    (words : List (List ℕ)) (files : Files) (run : Run) (text name report bytes : List ℕ) (workers : ℕ)
    (study : Question) → Lawful words files run text → request_of words ≡ Some (Check name report workers) →
    GivesStudy files name study → files report ≡ Some bytes →
    (run.status ≡ 0) ↔ (IsRightText study bytes × (length bytes ≤ most_report_bytes))

-- the bytes are the report of a verdict that is right over the study, or the text of a sharp verdict that is; what it
-- claims holds, and the line for it was written
pub data IsConfirmedAs (d : Devices) (study : Question) (bytes : List ℕ) : Type 0 where
  as_report : (verdict : Verdict) → IsReport study verdict bytes → Claims study verdict
      → Appends d.taken_before d.taken_now (answer_text (Confirmed verdict))
      → IsConfirmedAs d study bytes
  as_sharp_text : (v : Pointed) → IsSharpText study v bytes → SharpClaims study v
      → Appends d.taken_before d.taken_now confirmed_sharp_line
      → IsConfirmedAs d study bytes

-- the file of the study gives one, and that of the report is such a text, within its limit
pub record IsConfirmedRight (d : Devices) (files : Files) (name report : List ℕ) : Type 0 where
  pub study : Question
  pub bytes : List ℕ
  pub given : GivesStudy files name study
  pub held : files report ≡ Some bytes
  pub fits : length bytes ≤ most_report_bytes
  pub right : IsConfirmedAs d study bytes

-- where `check` ends with status 0, it was such a text
abbrev pub ConfirmedHolds : Type 0
ConfirmedHolds =
    (words : List (List ℕ)) (d : Devices) (run : Run) (files : Files) (name report : List ℕ) (workers : ℕ) →
    IsCall words d run → d.told ≡ Some files → request_of words ≡ Some (Check name report workers) →
    run.status ≡ 0 → IsConfirmedRight d files name report

-- row by row: a study that is refused, a report or a sharp text that is judged, the report of a right verdict, and the
-- text of a right sharp verdict
pub record AreRows (d : Devices) (run : Run) (files : Files) (name report : List ℕ) : Type 0 where
  pub refused : (text : List ℕ) → RefusesStudy files name text → Says d run 3 text
  pub judged : (study : Question) (bytes : List ℕ) → GivesStudy files name study → files report ≡ Some bytes
      → Says d run (judged_status (judged study bytes)) (judged_text (judged study bytes))
  pub right : (study : Question) (bytes : List ℕ) (verdict : Verdict) → GivesStudy files name study
      → files report ≡ Some bytes → IsReport study verdict bytes → length bytes ≤ most_report_bytes
      → Says d run 0 (answer_text (Confirmed verdict))
  pub sharp : (study : Question) (bytes : List ℕ) (v : Pointed) → GivesStudy files name study
      → files report ≡ Some bytes → IsSharpText study v bytes → length bytes ≤ most_report_bytes
      → Says d run 0 confirmed_sharp_line

-- each row of `check` is what is answered where it applies, faults and want of memory aside
abbrev pub ChecksAreAnswered : Type 0
ChecksAreAnswered =
    (words : List (List ℕ)) (d : Devices) (run : Run) (files : Files) (name report : List ℕ) (workers : ℕ) →
    IsCall words d run → d.told ≡ Some files → request_of words ≡ Some (Check name report workers) →
    run.status ≤ 4 → AreRows d run files name report

-- ---- one answer

-- words whose answer leaves no choice: all but `decide`, `proof`, `sample`, `adopt` and `sharpen`, of which several
-- verdicts may be right
abbrev pub IsSettled : Option Request → Type 0
IsSettled (Some (Decide study workers)) = ⊥
IsSettled (Some (Proof study workers)) = ⊥
IsSettled (Some (Sample number)) = ⊥
IsSettled (Some (Adopt study proof workers)) = ⊥
IsSettled (Some (Sharpen study workers)) = ⊥
IsSettled request = Unit {0}

-- the same run, and the same text
abbrev pub AreSame : Run → Run → List ℕ → List ℕ → Type 0
AreSame run run' text text' = (run ≡ run') × (text ≡ text')

-- over some files such words have one answer, so each row comes exactly where it says
abbrev pub AnswersAreOne : Type 0
AnswersAreOne = (words : List (List ℕ)) (files : Files) (run run' : Run) (text text' : List ℕ) → IsSettled (request_of words) →
    Lawful words files run text → Lawful words files run' text' → AreSame run run' text text'

-- ---- whatever the shelf tells

-- status 2 comes only where the words are no command; there, faults and want of memory aside, it comes and
-- the usage line is written, and at a fault of the sink the front of that line
pub record IsUsageExact (words : List (List ℕ)) (d : Devices) (run : Run) : Type 0 where
  pub only : run.status ≡ 2 → request_of words ≡ None
  pub written : request_of words ≡ None → run.status ≤ 4 → Says d run 2 usage_line
  pub cut_short : request_of words ≡ None → run.status ≡ 6
      → AppendsPrefix d.taken_before d.taken_now usage_line

abbrev pub UsageIsExact : Type 0
UsageIsExact =
    (words : List (List ℕ)) (d : Devices) (run : Run) → IsCall words d run → IsUsageExact words d run

-- `axioms` writes the library, and at a fault of the sink the front of it
pub record WritesLibrary (d : Devices) (run : Run) (kind : Kind) : Type 0 where
  pub written : run.status ≤ 4 → Says d run 0 (library_text kind)
  pub cut_short : run.status ≡ 6 → AppendsPrefix d.taken_before d.taken_now (library_text kind)

abbrev pub LibraryIsWritten : Type 0
LibraryIsWritten = (words : List (List ℕ)) (d : Devices) (run : Run) (kind : Kind) → IsCall words d run →
    request_of words ≡ Some (Axioms kind) → WritesLibrary d run kind

-- of the files of a command none but the first was touched where the call ends with status 3; and none but the
-- first of two where the shelf tells that the first is not taken, even if it could not be read or its line could
-- not be written, want of memory aside
pub record LeavesUnopened (words : List (List ℕ)) (d : Devices) (run : Run) : Type 0 where
  pub at_three : run.status ≡ 3 → (first : List ℕ) (others : List (List ℕ)) → files_of (request_of words) ≡ first ∷ others
      → OthersStay d.left_before d.left_now first
  pub at_pair : (files : Files) (first second : List ℕ) → d.told ≡ Some files
      → files_of (request_of words) ≡ first ∷ second ∷ [] → ¬ IsFirstTaken (request_of words) files first
      → run.status ≤ 6 → OthersStay d.left_before d.left_now first

abbrev pub RefusedLeavesUnopened : Type 0
RefusedLeavesUnopened =
    (words : List (List ℕ)) (d : Devices) (run : Run) → IsCall words d run → LeavesUnopened words d run

-- words that name no file touch none, and no count of faults changes
abbrev pub OtherWordsTouchNone : Type 0
OtherWordsTouchNone = (words : List (List ℕ)) (d : Devices) (run : Run) → IsCall words d run →
    files_of (request_of words) ≡ [] → (name : List ℕ) →
    (d.left_now name ≡ d.left_before name) × (d.faults_now name ≡ d.faults_before name)

-- ---- completeness

-- no count of these files rose
abbrev pub AreQuiet : Devices → List (List ℕ) → Type 0
AreQuiet d [] = Unit {0}
AreQuiet d (name ∷ names) = (¬ Rose (d.faults_before name) (d.faults_now name)) × AreQuiet d names

-- no count of a file of the command rose, nor that of the sink
pub record HasNoFault (words : List (List ℕ)) (d : Devices) : Type 0 where
  pub files : AreQuiet d (files_of (request_of words))
  pub sink : ¬ Rose d.sink_faults_before d.sink_faults_now

-- 0, or 4 where the search spent its limit, or 7
abbrev pub IsDecidedOrWanting : Run → Type 0
IsDecidedOrWanting run = (run.status ≡ 0) ⊎ ((run.status ≡ 4) ⊎ (run.status ≡ 7))

-- over a study that is read, with clauses within the limits, `decide` and `proof` end with status 0, 4 or 7, and so
-- does `sharpen` where the frames with all instances are within them too, and `export` with 0 or 7; so does `sample`
-- over the study of its number; a confirmed report or sharp text within its limit over a study that is read ends with
-- 0 or 7, for `gain` a report over one of sets, and so does an accepted proof over clauses that are read or that
-- `adopt` makes, and `axioms`; words that are no command end with 2 or 7; and no call ends with 5 or 6
pub record AreAnswered (words : List (List ℕ)) (d : Devices) (run : Run) : Type 0 where
  pub decide : (files : Files) (name : List ℕ) (workers : ℕ) (study : Question) → d.told ≡ Some files → request_of words ≡ Some (Decide name workers)
      → GivesStudy files name study → clauses_fault study ≡ None → IsDecidedOrWanting run
  pub export : (files : Files) (name : List ℕ) (workers : ℕ) (study : Question) → d.told ≡ Some files → request_of words ≡ Some (Export name workers)
      → GivesStudy files name study → clauses_fault study ≡ None → (run.status ≡ 0) ⊎ (run.status ≡ 7)
  pub proof : (files : Files) (name : List ℕ) (workers : ℕ) (study : Question) → d.told ≡ Some files → request_of words ≡ Some (Proof name workers)
      → GivesStudy files name study → clauses_fault study ≡ None → IsDecidedOrWanting run
  pub lrat : (files : Files) (name proof bytes : List ℕ) (formula : Formula) → d.told ≡ Some files → request_of words ≡ Some (Lrat name proof)
      → GivesFormula files name formula → files proof ≡ Some bytes → (said_of formula bytes).status ≡ 0 → (run.status ≡ 0) ⊎ (run.status ≡ 7)
  pub sample : (number : ℕ) (study : Question) → request_of words ≡ Some (Sample number) → IsSampleStudy number study → clauses_fault study ≡ None
      → IsDecidedOrWanting run
  pub check : (files : Files) (name report bytes : List ℕ) (workers : ℕ) (study : Question)
      → d.told ≡ Some files → request_of words ≡ Some (Check name report workers)
      → GivesStudy files name study → files report ≡ Some bytes → IsRightText study bytes
      → length bytes ≤ most_report_bytes → (run.status ≡ 0) ⊎ (run.status ≡ 7)
  pub adopt : (files : Files) (name proof bytes : List ℕ) (workers : ℕ) (study : Question)
      → d.told ≡ Some files → request_of words ≡ Some (Adopt name proof workers)
      → GivesStudy files name study → clauses_fault study ≡ None → files proof ≡ Some bytes
      → (said_of (exported_formula study) bytes).status ≡ 0 → (run.status ≡ 0) ⊎ (run.status ≡ 7)
  pub gain : (files : Files) (name report bytes : List ℕ) (study : Question)
      → d.told ≡ Some files → request_of words ≡ Some (Gain name report)
      → GivesStudy files name study → study.size.kind ≡ Sets → files report ≡ Some bytes → IsSomeReport study bytes
      → length bytes ≤ most_report_bytes → (run.status ≡ 0) ⊎ (run.status ≡ 7)
  pub sharpen : (files : Files) (name : List ℕ) (workers : ℕ) (study : Question) → d.told ≡ Some files → request_of words ≡ Some (Sharpen name workers)
      → GivesStudy files name study → clauses_fault study ≡ None → IsFalse (passes_clause_limits (total study)) → IsDecidedOrWanting run
  pub axioms : (kind : Kind) → request_of words ≡ Some (Axioms kind) → (run.status ≡ 0) ⊎ (run.status ≡ 7)
  pub usage : request_of words ≡ None → (run.status ≡ 2) ⊎ (run.status ≡ 7)
  pub no_read_fault : run.status ≢ 5
  pub no_write_fault : run.status ≢ 6

abbrev pub CallsAreComplete : Type 0
CallsAreComplete =
    (words : List (List ℕ)) (d : Devices) (run : Run) → IsCall words d run → HasNoFault words d →
    AreAnswered words d run

-- ---- `export`, `proof` and `lrat`

-- a call of this request, over a file that gives this study, ended with status 0, and this text is all that the
-- sink has taken
pub record Wrote (request : List ℕ → ℕ → Request) (study : Question) (text : List ℕ) : Type 0 where
  pub words : List (List ℕ)
  pub d : Devices
  pub run : Run
  pub files : Files
  pub name : List ℕ
  pub workers : ℕ
  pub call : IsCall words d run
  pub told : d.told ≡ Some files
  pub asked : request_of words ≡ Some (request name workers)
  pub given : GivesStudy files name study
  pub done : run.status ≡ 0
  pub empty : d.taken_before ≡ Some []
  pub taken : d.taken_now ≡ Some text

-- a call of `lrat` confirms, faults and want of memory aside; where no fault is counted, only memory may be wanting
pub record Confirms (words : List (List ℕ)) (d : Devices) (run : Run) : Type 0 where
  pub says : run.status ≤ 4 → Says d run 0 (codes "confirmed\n")
  pub completes : HasNoFault words d → (run.status ≡ 0) ⊎ (run.status ≡ 7)

-- what calls of `export` and `proof` have written of one study is confirmed by a call of `lrat` over files that
-- hold it, whatever else these hold; but where `proof` wrote that there is a rule, or a text that is too long
abbrev pub WrittenProofsAreConfirmed : Type 0
WrittenProofsAreConfirmed =
    (study : Question) (clauses refutation : List ℕ) →
    Wrote Export study clauses → Wrote Proof study refutation → refutation ≢ codes "c possible\n" →
    (words : List (List ℕ)) (d : Devices) (run : Run) (files : Files) (cnf proof : List ℕ) →
    IsCall words d run → d.told ≡ Some files → request_of words ≡ Some (Lrat cnf proof) →
    files cnf ≡ Some clauses → HasFile files most_proof_bytes proof refutation →
    Confirms words d run

-- ---- `proof` and `adopt`

-- a call of `adopt` ends with status 0, faults and want of memory aside; where no fault is counted, only memory may
-- be wanting
pub record AdoptsIt (words : List (List ℕ)) (d : Devices) (run : Run) : Type 0 where
  pub ends : run.status ≤ 4 → run.status ≡ 0
  pub completes : HasNoFault words d → (run.status ≡ 0) ⊎ (run.status ≡ 7)

-- what a call of `proof` has written of a study is adopted by a call over files that hold it and give that study,
-- whatever else these hold; but where it wrote that there is a rule, or a text that is too long
abbrev pub WrittenProofsAreAdopted : Type 0
WrittenProofsAreAdopted =
    (study : Question) (refutation : List ℕ) →
    Wrote Proof study refutation → refutation ≢ codes "c possible\n" →
    (words : List (List ℕ)) (d : Devices) (run : Run) (files : Files) (name proof : List ℕ) (workers : ℕ) →
    IsCall words d run → d.told ≡ Some files → request_of words ≡ Some (Adopt name proof workers) →
    GivesStudy files name study → HasFile files most_proof_bytes proof refutation →
    AdoptsIt words d run

-- ---- `decide`, `adopt` and `check`

-- a call of `check` confirms this verdict, faults and want of memory aside; where no fault is counted, only memory
-- may be wanting
pub record ConfirmsReport (words : List (List ℕ)) (d : Devices) (run : Run) (verdict : Verdict) : Type 0 where
  pub says : run.status ≤ 4 → Says d run 0 (answer_text (Confirmed verdict))
  pub completes : HasNoFault words d → (run.status ≡ 0) ⊎ (run.status ≡ 7)

-- each call of `check` over files that hold this report and give this study, whatever else these hold, confirms the
-- verdict that the run has found; but where the report is too long
abbrev pub IsConfirmedByCalls : Run → Question → List ℕ → Type 0
IsConfirmedByCalls found study text =
    (words : List (List ℕ)) (d : Devices) (run : Run) (files : Files) (name report : List ℕ) (workers : ℕ) →
    IsCall words d run → d.told ≡ Some files → request_of words ≡ Some (Check name report workers) →
    GivesStudy files name study → HasFile files most_report_bytes report text →
    (verdict : Verdict) × (found.verdict ≡ Some verdict) × ConfirmsReport words d run verdict

-- what a call of `decide` or of `adopt` has written of a study is confirmed
pub record WrittenReportsAreConfirmed : Type 0 where
  pub decide : (study : Question) (text : List ℕ) (wrote : Wrote Decide study text)
      → IsConfirmedByCalls wrote.run study text
  pub adopt : (proof : List ℕ) (study : Question) (text : List ℕ)
      (wrote : Wrote (λ name workers. Adopt name proof workers) study text)
      → IsConfirmedByCalls wrote.run study text
