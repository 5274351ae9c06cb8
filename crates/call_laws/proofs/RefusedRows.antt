-- What is said of what is refused.
use Rattle.std.proofs.Common.{◌≡◌, ◌∙◌, sym, ap, subst, ℕ, ◌≤◌, List, None, Some, arith}
use Rattle.std.specs.Io.KnownBytes.{Appends}
use Rattle.edge.specs.Shelf.{Files}
use Rattle.vocab.specs.Study.{Question}
use Rattle.clause_form.specs.declared.refusals.GroundFault.{GroundFault}
use Rattle.words.specs.Words.{Request, Decide, Check, Export, Proof, Adopt, Gain, Sharpen, request_of}
use Rattle.answers.specs.declared.runs.Run.{Run}
use Rattle.answers.specs.Adopt.{Adopts, proof_refused, proof_retold}
use Rattle.answers.specs.Call.{IsCall, are_told}
use Rattle.answers.specs.Check.{IsJudged}
use Rattle.answers.specs.Decide.{IsReported}
use Rattle.answers.specs.Devices.{Devices}
use Rattle.answers.specs.Export.{IsWritten, exported_formula}
use Rattle.answers.specs.Gain.{Gains}
use Rattle.answers.specs.Grounding.{clauses_fault, refusal_line, OverClauses}
use Rattle.answers.specs.Lawful.{IsBenchAnswer}
use Rattle.answers.specs.Laws.{Says}
use Rattle.answers.specs.Lrat.{said_of}
use Rattle.answers.specs.Proof.{Proves}
use Rattle.answers.specs.Sharpen.{Sharpens}
use Rattle.answers.specs.Studies.{GivesStudy, RefusesStudy, OverStudy}
use Rattle.answers.proofs.CallLaws.{rest_of}
use Rattle.answers.proofs.ConfirmedLaws.{said_accepted}
use Rattle.answers.proofs.DeviceLaws.{refused_row, written_at}
use Rattle.answers.proofs.RowLemmas.{clauses_row, over_study, some_same}
use Rattle.call_laws.specs.Rows.{ReadsStudy, MakesClauses, RefusalsAreWritten}

-- a row that gives a status and a text was said
pub said : (d : Devices) (run : Run) (status : ℕ) (text line : List ℕ) → Appends d.taken_before d.taken_now text → (run.status ≡ status) × (text ≡ line) → Says d run status line
said d run status text line written row = (row.0, subst (λ (t : List ℕ). Appends d.taken_before d.taken_now t) row.1 written)

refutation_row : (files : Files) (proof : List ℕ) (run : Run) (text : List ℕ) (study : Question) (bytes : List ℕ) → files proof ≡ Some bytes
    → (said_of (exported_formula study) bytes).status ≡ 1 → Adopts files proof study run text → (run.status ≡ 1) × (text ≡ (said_of (exported_formula study) bytes).text)
refutation_row files proof run text study bytes held one (proof_refused bytes' held' one' is bare) =
    (bare.ends, is ∙ ap (λ b. (said_of (exported_formula study) b).text) (some_same (files proof) bytes' bytes held' held))
refutation_row files proof run text study bytes held one (proof_retold bytes' lines held' refutes retold) =
    let same : bytes' ≡ bytes = some_same (files proof) bytes' bytes held' held in
    let zero : (said_of (exported_formula study) bytes').status ≡ 0 =
    ap (λ s. s.status) (said_accepted (exported_formula study) bytes' refutes.fits (record { lines = lines; read = refutes.read; accepted = refutes.accepted })) in
    let no : 0 ≡ 1 = sym zero ∙ ap (λ b. (said_of (exported_formula study) b).status) same ∙ one in
    absurd (omega (arith, no))

module _ (words : List (List ℕ)) (d : Devices) (run : Run) (files : Files) (call : IsCall words d run) (told : d.told ≡ Some files) (low : run.status ≤ 4) where
  -- the row of a request, with what was written
  row_at : (request : Request) → request_of words ≡ Some request → (text : List ℕ) × IsBenchAnswer (Some request) files run text × Appends d.taken_before d.taken_now text
  row_at request asked = written_at words d run call (Some request) asked files (are_told told) low

  -- of a command whose row is one over the study of a file
  refused_at : (request : Request) (study name line : List ℕ) (IsRest : List ℕ → Question → Type 0) → request_of words ≡ Some request
      → ((text : List ℕ) → IsBenchAnswer (Some request) files run text → OverStudy files study run text (IsRest text)) → study ≡ name → RefusesStudy files name line → Says d run 3 line
  refused_at request study name line IsRest asked into same refuses =
      let a = row_at request asked in
      said d run 3 a.0 line a.2 (refused_row files name run a.0 line (IsRest a.0) refuses (subst (λ (n : List ℕ). OverStudy files n run a.0 (IsRest a.0)) same (into a.0 a.1)))

  refusal : (request : Request) (name line : List ℕ) → request_of words ≡ Some request → ReadsStudy request name → RefusesStudy files name line → Says d run 3 line
  refusal (Decide study workers) name line asked same refuses =
      refused_at (Decide study workers) study name line (λ text s. OverClauses s run text (IsReported s run text)) asked (λ text row. row) same refuses
  refusal (Check study report workers) name line asked same refuses =
      refused_at (Check study report workers) study name line (λ text s. IsJudged files report s run text) asked (λ text row. row) same refuses
  refusal (Export study workers) name line asked same refuses =
      refused_at (Export study workers) study name line (λ text s. OverClauses s run text (IsWritten s run text)) asked (λ text row. row) same refuses
  refusal (Proof study workers) name line asked same refuses =
      refused_at (Proof study workers) study name line (λ text s. OverClauses s run text (Proves s run text)) asked (λ text row. row) same refuses
  refusal (Adopt study proof workers) name line asked same refuses =
      refused_at (Adopt study proof workers) study name line (λ text s. OverClauses s run text (Adopts files proof s run text)) asked (λ text row. row) same refuses
  refusal (Gain study report) name line asked same refuses =
      refused_at (Gain study report) study name line (λ text s. Gains files report s run text) asked (λ text row. row) same refuses
  refusal (Sharpen study workers) name line asked same refuses =
      refused_at (Sharpen study workers) study name line (λ text s. OverClauses s run text (Sharpens s run text)) asked (λ text row. row) same refuses
  refusal request name line asked same refuses = absurd same

  -- of a command whose row is one over the clauses of the study of a file
  over_clauses_at : (request : Request) (study name : List ℕ) (q : Question) (fault : GroundFault) (IsRest : List ℕ → Question → Type 0) → request_of words ≡ Some request
      → ((text : List ℕ) → IsBenchAnswer (Some request) files run text → OverStudy files study run text (λ s. OverClauses s run text (IsRest text s)))
      → study ≡ name → GivesStudy files name q → clauses_fault q ≡ Some fault → Says d run 3 (refusal_line q fault)
  over_clauses_at request study name q fault IsRest asked into same g is =
      let a = row_at request asked in
      let row = subst (λ (n : List ℕ). OverStudy files n run a.0 (λ s. OverClauses s run a.0 (IsRest a.0 s))) same (into a.0 a.1) in
      said d run 3 a.0 (refusal_line q fault) a.2
      (clauses_row q fault run a.0 (IsRest a.0 q) is (over_study files name run a.0 (λ s. OverClauses s run a.0 (IsRest a.0 s)) q g row))

  clauses_refusal : (request : Request) (name : List ℕ) (q : Question) (fault : GroundFault) → request_of words ≡ Some request → MakesClauses request name
      → GivesStudy files name q → clauses_fault q ≡ Some fault → Says d run 3 (refusal_line q fault)
  clauses_refusal (Decide study workers) name q fault asked same g is =
      over_clauses_at (Decide study workers) study name q fault (λ text s. IsReported s run text) asked (λ text row. row) same g is
  clauses_refusal (Export study workers) name q fault asked same g is =
      over_clauses_at (Export study workers) study name q fault (λ text s. IsWritten s run text) asked (λ text row. row) same g is
  clauses_refusal (Proof study workers) name q fault asked same g is =
      over_clauses_at (Proof study workers) study name q fault (λ text s. Proves s run text) asked (λ text row. row) same g is
  clauses_refusal (Adopt study proof workers) name q fault asked same g is =
      over_clauses_at (Adopt study proof workers) study name q fault (λ text s. Adopts files proof s run text) asked (λ text row. row) same g is
  clauses_refusal (Sharpen study workers) name q fault asked same g is =
      over_clauses_at (Sharpen study workers) study name q fault (λ text s. Sharpens s run text) asked (λ text row. row) same g is
  clauses_refusal request name q fault asked same g is = absurd same

  refutation_refusal : (name proof bytes : List ℕ) (workers : ℕ) (study : Question) → request_of words ≡ Some (Adopt name proof workers) → GivesStudy files name study
      → clauses_fault study ≡ None → files proof ≡ Some bytes → (said_of (exported_formula study) bytes).status ≡ 1 → Says d run 1 (said_of (exported_formula study) bytes).text
  refutation_refusal name proof bytes workers study asked g none held one =
      let a = row_at (Adopt name proof workers) asked in
      said d run 1 a.0 (said_of (exported_formula study) bytes).text a.2
      (refutation_row files proof run a.0 study bytes held one (rest_of files name run a.0 (λ s. Adopts files proof s run a.0) study g none a.1))

pub refusals_written : RefusalsAreWritten
refusals_written words d run files call told low = record {
  no_study = refusal words d run files call told low;
  no_clauses = clauses_refusal words d run files call told low;
  no_refutation = refutation_refusal words d run files call told low;
}
