-- `lrat` confirms what `proof` writes over what `export` writes.
use Rattle.std.proofs.Common.{◌≡◌, ◌≢◌, ◌∙◌, refl, sym, ap, subst, ℕ, ◌≤◌, ◌⊎◌, inl, inr, Bool, cond, List, [], length, codes, Option, None, Some, Result, arith, le-ltb}
use Rattle.std.specs.Io.KnownBytes.{Appends}
use Rattle.edge.specs.Shelf.{Files}
use Rattle.vocab.specs.Study.{Question}
use Rattle.cnf.specs.declared.derivations.Line.{Line}
use Rattle.cnf.specs.declared.derivations.LineFault.{LineFault}
use Rattle.meaning.specs.Variables.{variable_count}
use Rattle.clause_text.specs.declared.faults.LratFault.{LratFault}
use Rattle.clause_text.specs.Lrat.{lrat_text}
use Rattle.clause_text.specs.ReadDimacs.{Formula}
use Rattle.clause_text.specs.ReadLrat.{read_lrat}
use Rattle.words.specs.Words.{Request, Export, Proof, Lrat, request_of}
use Rattle.answers.specs.declared.runs.Run.{Run}
use Rattle.answers.specs.Runs.{IsBare}
use Rattle.answers.specs.FileLimits.{most_proof_bytes, HasFile}
use Rattle.answers.specs.Studies.{GivesStudy}
use Rattle.answers.specs.Grounding.{all_clauses, clauses_fault, OverClauses, clauses_refused, clauses_made}
use Rattle.answers.specs.Export.{export_text, exported_formula, IsWritten, IsExported}
use Rattle.answers.specs.Proof.{Refutes, Proves, refuted, possible, undecided, IsProved}
use Rattle.answers.specs.Lrat.{GivesFormula, Said, refused, said_of, of_reading, of_derivation, IsLratAnswer, proof_judged}
use Rattle.answers.specs.Lawful.{IsBenchAnswer}
use Rattle.answers.specs.Devices.{Devices}
use Rattle.answers.specs.Call.{IsCall, are_told}
use Rattle.answers.specs.Laws.{Says, HasNoFault, Wrote, WrittenProofsAreConfirmed}
use Rattle.answers.specs.RowLaws.{IsConfirming, ProvedAreConfirmed}
use Rattle.answers.proofs.RowLemmas.{granted, over_study, not_three}
use Rattle.answers.proofs.ExportLemmas.{IsReadAgain, export_read}
use Rattle.answers.proofs.RangeLemmas.{GivesAccepted, written_accepted}
use Rattle.answers.proofs.OneAnswer.{one_lrat}
use Rattle.answers.proofs.DeviceLaws.{written_at}
use Rattle.answers.proofs.CallLaws.{settled_row}

-- ---- what the rows say with status 0

-- the clauses of a run that does not end with status 3 are not refused
pub not_faulty : (study : Question) (run : Run) (text : List ℕ) (P : Type 0) → run.status ≡ 0 → OverClauses study run text P → clauses_fault study ≡ None
not_faulty study run text P zero_is (clauses_refused fault e t bare) = absurd (not_three run zero_is bare)
not_faulty study run text P zero_is (clauses_made none p) = none

module _ (files : Files) (name : List ℕ) (study : Question) (run : Run) (text : List ℕ) (g : GivesStudy files name study) (zero_is : run.status ≡ 0) where
  unrefused : IsExported files name run text → clauses_fault study ≡ None
  unrefused row = not_faulty study run text (IsWritten study run text) zero_is (over_study files name run text (λ s. OverClauses s run text (IsWritten s run text)) study g row)

  exported_text : IsExported files name run text → text ≡ export_text study
  exported_text row = (granted files name run text (λ s. IsWritten s run text) study g zero_is row).1

  by_shown : text ≢ codes "c possible\n" → Proves study run text → (lines : List Line) × Refutes study lines × (text ≡ lrat_text lines)
  by_shown other (refuted lines r bare is) = (lines, r, is)
  by_shown other (possible table found is) = absurd (other is)
  by_shown other (undecided u is) = let four : 0 ≡ 4 = sym zero_is ∙ u.ends in absurd (omega (arith, four))

  pub refuting : text ≢ codes "c possible\n" → IsProved files name run text → (lines : List Line) × Refutes study lines × (text ≡ lrat_text lines)
  refuting other row = by_shown other (granted files name run text (λ s. Proves s run text) study g zero_is row)

-- ---- what is said of such a proof

-- a text that gives an accepted derivation is confirmed
pub said_accepted : (formula : Formula) (text : List ℕ) → length text ≤ most_proof_bytes → GivesAccepted formula.variables formula.clauses text → said_of formula text ≡ of_derivation None
said_accepted formula text fits given =
    ap (λ (b : Bool). cond b (refused (codes "proof: too long\n")) (of_reading formula (read_lrat formula.variables text))) (le-ltb most_proof_bytes (length text) fits)
    ∙ ap (λ (r : Result (List Line) LratFault). of_reading formula r) given.read
    ∙ ap (λ (o : Option (ℕ × LineFault)). of_derivation o) given.accepted

-- so is a refutation that `proof` writes
pub said_of_written : (study : Question) (refutation : List ℕ) (lines : List Line) → IsReadAgain study → Refutes study lines → refutation ≡ lrat_text lines → length refutation ≤ most_proof_bytes
    → said_of (exported_formula study) refutation ≡ of_derivation None
said_of_written study refutation lines again refutes proved fits =
    let short : length (lrat_text lines) ≤ most_proof_bytes = subst (λ (t : List ℕ). length t ≤ most_proof_bytes) proved fits in
    let accepted : GivesAccepted (variable_count study.size) (all_clauses study) refutation =
    subst (λ (t : List ℕ). GivesAccepted (variable_count study.size) (all_clauses study) t) (sym proved)
    (written_accepted (variable_count study.size) (all_clauses study) lines again.few.short short refutes.trimmed refutes.over) in
    said_accepted (exported_formula study) refutation fits accepted

module _ (study : Question) (files : Files) (cnf proof clauses refutation : List ℕ) (again : IsReadAgain study) (lines : List Line) (refutes : Refutes study lines)
    (exported : clauses ≡ export_text study) (proved : refutation ≡ lrat_text lines) (held : files cnf ≡ Some clauses) (holds : HasFile files most_proof_bytes proof refutation) where
  formula_given : GivesFormula files cnf (exported_formula study)
  formula_given = record {
    bytes = export_text study;
    holds = record { held = held ∙ ap (λ (t : List ℕ). Some t) exported; fits = again.fits };
    read = again.read;
  }

  confirmed_said : said_of (exported_formula study) refutation ≡ of_derivation None
  confirmed_said = said_of_written study refutation lines again refutes proved holds.fits

  row_there : (run : Run) (text : List ℕ) → IsBare run 0 → text ≡ codes "confirmed\n" → IsLratAnswer files cnf proof run text
  row_there run text bare is =
      proof_judged (exported_formula study) refutation formula_given holds.held
      (subst (λ (s : Said). IsBare run s.status) (sym confirmed_said) bare) (is ∙ ap (λ (s : Said). s.text) (sym confirmed_said))

  abbrev confirming_run : Run
  confirming_run = record { status = 0; verdict = None; logs = []; sharp = None }

  row_alone : (run : Run) (text : List ℕ) → IsLratAnswer files cnf proof run text → IsBare run 0 × (text ≡ codes "confirmed\n")
  row_alone run text row =
      let there = row_there confirming_run (codes "confirmed\n") (record { ends = refl; no_verdict = refl; no_logs = refl; no_sharp = refl }) refl in
      let same = one_lrat files run confirming_run text (codes "confirmed\n") cnf proof row there in
      (subst (λ (r : Run). IsBare r 0) (sym same.0) (record { ends = refl; no_verdict = refl; no_logs = refl; no_sharp = refl }), same.1)

  confirming : IsConfirming files cnf proof
  confirming run text = (row_alone run text, λ is. row_there run text is.0 is.1)

pub proved_confirmed : ProvedAreConfirmed
proved_confirmed study exported proved files name name' cnf proof run run' clauses refutation row g zero_is row' g' zero_is' other held holds =
    let again = export_read exported name study g (unrefused exported name study run clauses g zero_is row) in
    let found = refuting proved name' study run' refutation g' zero_is' other row' in
    confirming study files cnf proof clauses refutation again found.0 found.1 (exported_text exported name study run clauses g zero_is row) found.2 held holds

-- ---- what calls have written

-- all that the sink has taken
all_written : (d : Devices) (text written : List ℕ) → d.taken_before ≡ Some [] → d.taken_now ≡ Some text → Appends d.taken_before d.taken_now written → written ≡ text
all_written d text written empty taken appended =
    let from_none : Appends (Some []) d.taken_now written = subst (λ (o : Option (List ℕ)). Appends o d.taken_now written) empty appended in
    let all : Appends (Some []) (Some text) written = subst (λ (o : Option (List ℕ)). Appends (Some []) o written) taken from_none in
    sym all

-- the row of such a call
pub row_written : (request : List ℕ → ℕ → Request) (study : Question) (text : List ℕ) (w : Wrote request study text) → IsBenchAnswer (Some (request w.name w.workers)) w.files w.run text
row_written request study text w =
    let done = w.done in
    let a = written_at w.words w.d w.run w.call (Some (request w.name w.workers)) w.asked w.files (are_told w.told) (omega (arith, done)) in
    subst (λ (t : List ℕ). IsBenchAnswer (Some (request w.name w.workers)) w.files w.run t) (all_written w.d text a.0 w.empty w.taken a.2) a.1

module _ (words : List (List ℕ)) (d : Devices) (run : Run) (files : Files) (cnf proof : List ℕ) (call : IsCall words d run) (told : d.told ≡ Some files)
    (asked : request_of words ≡ Some (Lrat cnf proof)) (alone : IsConfirming files cnf proof) where
  confirmed_says : run.status ≤ 4 → Says d run 0 (codes "confirmed\n")
  confirmed_says low =
      let a = written_at words d run call (Some (Lrat cnf proof)) asked files (are_told told) low in
      let is = (alone run a.0).0 a.1 in
      (is.0.ends, subst (λ (t : List ℕ). Appends d.taken_before d.taken_now t) is.1 a.2)

  confirmed_settled : HasNoFault words d → (run.status ≡ 0) ⊎ (run.status ≡ 7)
  confirmed_settled calm = elim (settled_row words d run call calm (Some (Lrat cnf proof)) files asked told) [
    | inl a ↦ inl ((alone run a.0).0 a.1).0.ends
    | inr seven ↦ inr seven
  ]

pub proofs_confirmed : WrittenProofsAreConfirmed
proofs_confirmed study clauses refutation exported proved other words d run files cnf proof call told asked held holds =
    let alone =
    proved_confirmed study exported.files proved.files files exported.name proved.name cnf proof exported.run proved.run clauses refutation
    (row_written Export study clauses exported) exported.given exported.done (row_written Proof study refutation proved) proved.given proved.done other held holds in
    record {
      says = confirmed_says words d run files cnf proof call told asked alone;
      completes = confirmed_settled words d run files cnf proof call told asked alone;
    }
