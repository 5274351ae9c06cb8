-- What calls come to that refuse, that find nothing, and that no device disturbs. Each is proved as the
-- contract of a function of the same name in src/rows.rt.
use Rattle.std.specs.Prelude.{◌≡◌, ℕ, ◌≤◌, ◌⊎◌, List, Any, codes, None, Some, Ok}
use Rattle.std.specs.Io.KnownBytes.{Appends}
use Rattle.edge.specs.Shelf.{Files}
use Rattle.vocab.specs.Study.{Question}
use Rattle.cnf.specs.declared.derivations.Line.{Line}
use Rattle.cnf.specs.Derived.{IsAccepted}
use Rattle.clause_form.specs.declared.refusals.GroundFault.{GroundFault}
use Rattle.verdicts.specs.declared.verdicts.Verdict.TheVariants.{Undecided}
use Rattle.verdicts.specs.Report.{report_text}
use Rattle.clause_text.specs.ReadDimacs.{Formula}
use Rattle.clause_text.specs.ReadLrat.{read_lrat}
use Rattle.samples.specs.Sample.{IsSampleStudy}
use Rattle.search_logs.specs.Spent.{IsOfAll, AreSpentLogs}
use Rattle.words.specs.Words.{Request, Check, Export, Proof, Lrat, Sample, Adopt, Gain, request_of}
use Rattle.answers.specs.declared.runs.Run.{Run}
use Rattle.answers.specs.Call.{IsCall, IsAnswered, AreFiles, files_of}
use Rattle.answers.specs.Devices.{Devices}
use Rattle.answers.specs.Export.{exported_formula}
use Rattle.answers.specs.FileLimits.{most_proof_bytes, HasFile}
use Rattle.answers.specs.Grounding.{clauses_fault, refusal_line}
use Rattle.answers.specs.Laws.{Says, HasNoFault}
use Rattle.answers.specs.Lrat.{GivesFormula, RefusesFormula, said_of}
use Rattle.answers.specs.RowLaws.{Searches}
use Rattle.answers.specs.Sample.{summary_line}
use Rattle.answers.specs.Studies.{GivesStudy, RefusesStudy}

-- ---- what is refused

-- the command reads its study from the file of this name
abbrev pub ReadsStudy : Request → List ℕ → Type 0
ReadsStudy (Check study report workers) name = study ≡ name
ReadsStudy (Export study workers) name = study ≡ name
ReadsStudy (Gain study report) name = study ≡ name
ReadsStudy request name = Searches request name

-- the command makes the clauses of that study
abbrev pub MakesClauses : Request → List ℕ → Type 0
MakesClauses (Export study workers) name = study ≡ name
MakesClauses request name = Searches request name

-- a study that is refused, and one whose clauses are, get their line, whatever was asked of it; and over any
-- other `adopt` refuses a proof by the line of `lrat`
pub record AreRefused (words : List (List ℕ)) (d : Devices) (run : Run) (files : Files) : Type 0 where
  pub no_study : (request : Request) (name text : List ℕ) → request_of words ≡ Some request
      → ReadsStudy request name
      → RefusesStudy files name text → Says d run 3 text
  pub no_clauses : (request : Request) (name : List ℕ) (study : Question) (fault : GroundFault)
      → request_of words ≡ Some request → MakesClauses request name → GivesStudy files name study
      → clauses_fault study ≡ Some fault → Says d run 3 (refusal_line study fault)
  pub no_refutation : (name proof bytes : List ℕ) (workers : ℕ) (study : Question)
      → request_of words ≡ Some (Adopt name proof workers) → GivesStudy files name study
      → clauses_fault study ≡ None
      → files proof ≡ Some bytes → (said_of (exported_formula study) bytes).status ≡ 1
      → Says d run 1 (said_of (exported_formula study) bytes).text

-- what is refused is refused by its line, faults and want of memory aside
abbrev pub RefusalsAreWritten : Type 0
RefusalsAreWritten =
    (words : List (List ℕ)) (d : Devices) (run : Run) (files : Files) →
    IsCall words d run → d.told ≡ Some files → run.status ≤ 4 → AreRefused words d run files

-- row by row: clauses that are refused, a proof that is judged, and one that is accepted from these clauses
pub record AreLratRows (d : Devices) (run : Run) (files : Files) (name proof : List ℕ) : Type 0 where
  pub refused : (text : List ℕ) → RefusesFormula files name text → Says d run 3 text
  pub judged : (formula : Formula) (bytes : List ℕ) → GivesFormula files name formula
      → files proof ≡ Some bytes
      → Says d run (said_of formula bytes).status (said_of formula bytes).text
  pub accepted : (formula : Formula) (bytes : List ℕ) (lines : List Line) → GivesFormula files name formula
      → HasFile files most_proof_bytes proof bytes → read_lrat formula.variables bytes ≡ Ok lines
      → IsAccepted formula.clauses lines → Says d run 0 (codes "confirmed\n")

-- each row of `lrat` is what is answered where it applies, faults and want of memory aside
abbrev pub RefutationsAreAnswered : Type 0
RefutationsAreAnswered =
    (words : List (List ℕ)) (d : Devices) (run : Run) (files : Files) (name proof : List ℕ) →
    IsCall words d run → d.told ≡ Some files → request_of words ≡ Some (Lrat name proof) →
    run.status ≤ 4 → AreLratRows d run files name proof

-- ---- what is left open

-- nothing was found of a study: among the searches that spent its limit is one over all axioms, and this
-- text says so
pub record IsLeftOpen (study : Question) (d : Devices) (run : Run) (text : List ℕ) : Type 0 where
  pub told : run.verdict ≡ Some Undecided
  pub spent : Any (IsOfAll study) run.logs
  pub logs : AreSpentLogs study run.logs
  pub written : Appends d.taken_before d.taken_now text

-- what a command says of a study of which nothing was found
abbrev pub open_text : Request → Question → List ℕ
open_text (Proof study workers) q = codes "c undecided\n"
open_text (Sample number) q = summary_line number q Undecided
open_text request q = report_text q Undecided

-- a call that ends with status 4 has found nothing of the study that was read, or of that of its number
pub record OpenCallsHaveSpent : Type 0 where
  pub of_file : (words : List (List ℕ)) (d : Devices) (run : Run) (files : Files) (request : Request)
      (name : List ℕ)
      (study : Question) → IsCall words d run → d.told ≡ Some files → request_of words ≡ Some request
      → Searches request name → GivesStudy files name study → run.status ≡ 4
      → IsLeftOpen study d run (open_text request study)
  pub of_number : (words : List (List ℕ)) (d : Devices) (run : Run) (number : ℕ) (study : Question)
      → IsCall words d run
      → request_of words ≡ Some (Sample number) → IsSampleStudy number study → run.status ≡ 4
      → IsLeftOpen study d run (open_text (Sample number) study)

-- ---- where no device fails

-- the answer is a row of the table and was written, whatever the words, over the files that the shelf tells,
-- and over any where the words name none; or memory was wanting
abbrev pub QuietCallsHaveRows : Type 0
QuietCallsHaveRows =
    (words : List (List ℕ)) (d : Devices) (run : Run) → IsCall words d run → HasNoFault words d →
    ((run.status ≤ 4) × ((files : Files) → AreFiles d.told (files_of (request_of words)) files → IsAnswered words d files run))
    ⊎ (run.status ≡ 7)
