-- What `adopt` prints holds, is confirmed, and comes where `lrat` confirms.
use Rattle.std.proofs.Common.{◌≡◌, ◌≢◌, ◌∙◌, refl, sym, ap, subst, ℕ, ◌≤◌, ◌^◌, inl, inr, List, [], codes, None, Some, arith}
use Rattle.edge.specs.Shelf.{Files}
use Rattle.vocab.specs.Study.{Question}
use Rattle.cnf.specs.declared.derivations.Line.{Line}
use Rattle.meaning.specs.Variables.{variable_count}
use Rattle.verdicts.specs.declared.verdicts.Verdict.TheVariants.{Impossible}
use Rattle.study.proofs.WholeStudies.{studies_whole}
use Rattle.words.specs.Words.{Proof, Adopt, request_of}
use Rattle.answers.specs.declared.runs.Run.{Run}
use Rattle.answers.specs.FileLimits.{most_proof_bytes, HasFile}
use Rattle.answers.specs.Studies.{GivesStudy}
use Rattle.answers.specs.Grounding.{clauses_fault, OverClauses, clauses_refused, clauses_made}
use Rattle.answers.specs.Evidence.{by_verdict}
use Rattle.answers.specs.Export.{export_text, exported_formula}
use Rattle.answers.specs.Proof.{Proves}
use Rattle.answers.specs.Lrat.{GivesFormula, Said, said_of, of_derivation, IsLratAnswer, proof_judged}
use Rattle.answers.specs.Adopt.{IsRefutedBy, IsRetold, Adopts, proof_refused, proof_retold, IsAdoption}
use Rattle.answers.specs.Devices.{Devices}
use Rattle.answers.specs.Call.{IsCall, are_told}
use Rattle.answers.specs.Laws.{Wrote, AdoptsIt, WrittenProofsAreAdopted}
use Rattle.answers.specs.RowLaws.{IsConclusiveRun, IsAdoptedRight, AdoptedHolds, WrittenAdoptionsHold, AdoptedAreConfirmed, AdoptsAsLrat, ProvedAreAdopted, EnoughAdopts}
use Rattle.answers.proofs.RowLemmas.{some_same, over_study, granted}
use Rattle.verdicts.proofs.ReportLaws.{printed_is_report}
use Rattle.answers.proofs.JudgedLaws.{report_checked}
use Rattle.answers.proofs.DecidedLaws.{impossible, conclusive, bare_conclusive}
use Rattle.answers.proofs.ReportLaws.{reportable, listed}
use Rattle.answers.proofs.DeviceLaws.{written_at}
use Rattle.answers.proofs.CallLaws.{settled_row, rest_of}
use Rattle.answers.proofs.ExportLemmas.{IsReadAgain, export_read}
use Rattle.answers.proofs.OneAnswer.{one_lrat}
use Rattle.answers.proofs.ConfirmedLaws.{not_faulty, refuting, said_accepted, said_of_written, row_written}

-- ---- what is printed holds

module _ (files : Files) (proof : List ℕ) (study : Question) (run : Run) (text : List ℕ) where
  -- with status 0 a proof was retold
  retold : run.status ≡ 0 → Adopts files proof study run text → (bytes : List ℕ) × (lines : List Line) × (files proof ≡ Some bytes) × IsRefutedBy study bytes lines × IsRetold study lines run text
  retold zero_is (proof_refused bytes held one is bare) = let no : 0 ≡ 1 = sym zero_is ∙ bare.ends in absurd (omega (arith, no))
  retold zero_is (proof_retold bytes lines held refutes told) = (bytes, lines, held, refutes, told)

  adopted_right : (name bytes : List ℕ) → GivesStudy files name study → files proof ≡ Some bytes → run.status ≡ 0 → Adopts files proof study run text → IsAdoptedRight study bytes run text
  adopted_right name bytes g held zero_is row =
      let (bytes', lines, held', refutes, told) = retold zero_is row in
      let f = told.found in
      record {
        core = told.core;
        story = told.story;
        witnesses = told.witnesses;
        lines = lines;
        told = f.told;
        is = told.is;
        holds = impossible study run.logs told.core told.story told.witnesses f.right f.backed f.logs (studies_whole g.bytes study g.read).1;
        read = (subst (λ (b : List ℕ). IsRefutedBy study b lines) (some_same (files proof) bytes' bytes held' held) refutes).read;
        cited = told.cited;
      }

  -- ---- it ends as `lrat` does

  -- what is said of the proof over the clauses of the study, by a run
  abbrev EndsAsSaid : List ℕ → Type 0
  EndsAsSaid bytes = (run.status ≡ (said_of (exported_formula study) bytes).status) × (run.status ≡ 1 → text ≡ (said_of (exported_formula study) bytes).text)

  as_said : (bytes : List ℕ) → files proof ≡ Some bytes → Adopts files proof study run text → EndsAsSaid bytes
  as_said bytes held (proof_refused bytes' held' one is bare) =
      subst (λ (b : List ℕ). EndsAsSaid b) (some_same (files proof) bytes' bytes held' held) (bare.ends ∙ sym one, λ e. is)
  as_said bytes held (proof_retold bytes' lines held' refutes told) =
      let said : said_of (exported_formula study) bytes' ≡ of_derivation None =
      said_accepted (exported_formula study) bytes' refutes.fits (record { lines = lines; read = refutes.read; accepted = refutes.accepted }) in
      let ends : run.status ≡ 0 = told.found.ends in
      subst (λ (b : List ℕ). EndsAsSaid b) (some_same (files proof) bytes' bytes held' held) (
        ends ∙ ap (λ (s : Said). s.status) (sym said),
        λ one. let no : 0 ≡ 1 = sym ends ∙ one in absurd (omega (arith, no)),
      )

  -- ---- a large limit

  enough : 3 ^ variable_count study.size ≤ study.conflicts → Adopts files proof study run text → IsConclusiveRun run
  enough many (proof_refused bytes held one is bare) = bare_conclusive run 1 (λ no. absurd (omega (arith, no))) bare
  enough many (proof_retold bytes lines held refutes told) = conclusive study run (Impossible told.core told.story told.witnesses) many (by_verdict told.found)

  enough_row : 3 ^ variable_count study.size ≤ study.conflicts → OverClauses study run text (Adopts files proof study run text) → IsConclusiveRun run
  enough_row many (clauses_refused fault e t bare) = bare_conclusive run 3 (λ no. absurd (omega (arith, no))) bare
  enough_row many (clauses_made e r) = enough many r

pub adopted_hold : AdoptedHolds
adopted_hold files name proof run text bytes study row g held zero_is =
    adopted_right files proof study run text name bytes g held zero_is (granted files name run text (λ s. Adopts files proof s run text) study g zero_is row)

pub adoptions_hold : WrittenAdoptionsHold
adoptions_hold words d run files name proof bytes workers study call told asked g held zero_is =
    let a = written_at words d run call (Some (Adopt name proof workers)) asked files (are_told told) (omega (arith, zero_is)) in
    (a.0, adopted_hold files name proof run a.0 bytes study a.1 g held zero_is, a.2)

pub adopted_confirmed : AdoptedAreConfirmed
adopted_confirmed files name proof run text study row g zero_is fits =
    let (bytes, lines, held, refutes, told) = retold files proof study run text zero_is (granted files name run text (λ s. Adopts files proof s run text) study g zero_is row) in
    let f = told.found in
    let verdict = Impossible told.core told.story told.witnesses in
    let report = printed_is_report study text verdict f.claims_some f.right told.is in
    (verdict, f.told, report_checked study text verdict (reportable files name study g) (listed files name study g) report fits)

adopted_as_said : (files : Files) (name proof : List ℕ) (run : Run) (text bytes : List ℕ) (study : Question) → IsAdoption files name proof run text → GivesStudy files name study
    → clauses_fault study ≡ None → files proof ≡ Some bytes → EndsAsSaid files proof study run text bytes
adopted_as_said files name proof run text bytes study row g none held =
    as_said files proof study run text bytes held (rest_of files name run text (λ s. Adopts files proof s run text) study g none row)

-- `lrat` says this over what `export` writes
confirmed_as_said : (study : Question) (files : Files) (cnf proof : List ℕ) (run : Run) (text bytes : List ℕ) → IsReadAgain study → IsLratAnswer files cnf proof run text
    → files cnf ≡ Some (export_text study) → files proof ≡ Some bytes
    → (run.status ≡ (said_of (exported_formula study) bytes).status) × (text ≡ (said_of (exported_formula study) bytes).text)
confirmed_as_said study files cnf proof run text bytes again row exported held =
    let said = said_of (exported_formula study) bytes in
    let there : Run = record { status = said.status; verdict = None; logs = []; sharp = None } in
    let given : GivesFormula files cnf (exported_formula study) =
    record { bytes = export_text study; holds = record { held = exported; fits = again.fits }; read = again.read } in
    let same =
    one_lrat files run there text said.text cnf proof row
    (proof_judged (exported_formula study) bytes given held (record { ends = refl; no_verdict = refl; no_logs = refl; no_sharp = refl }) refl) in
    (ap (λ (r : Run). r.status) same.0, same.1)

pub adopted_as_lrat : AdoptsAsLrat
adopted_as_lrat study adopted confirmed name proof cnf proof' run run' text text' bytes row g none held row' exported held' =
    let ended = adopted_as_said adopted name proof run text bytes study row g none held in
    let said = confirmed_as_said study confirmed cnf proof' run' text' bytes (export_read adopted name study g none) row' exported held' in
    record { status = ended.0 ∙ sym said.0; refusal = λ one. ended.1 one ∙ sym said.1 }

pub enough_adopted : EnoughAdopts
enough_adopted files name proof run text study row g many =
    enough_row files proof study run text many (over_study files name run text (λ s. OverClauses s run text (Adopts files proof s run text)) study g row)

-- ---- what `proof` writes is adopted

pub proved_adopted : ProvedAreAdopted
proved_adopted study proved files name' name proof run' run refutation text row' g' zero_is other row g holds =
    let none : clauses_fault study ≡ None =
    not_faulty study run' refutation (Proves study run' refutation) zero_is (over_study proved name' run' refutation (λ s. OverClauses s run' refutation (Proves s run' refutation)) study g' row') in
    let (lines, refutes, is) = refuting proved name' study run' refutation g' zero_is other row' in
    let said = said_of_written study refutation lines (export_read proved name' study g' none) refutes is holds.fits in
    let ended = adopted_as_said files name proof run text refutation study row g none holds.held in
    ended.0 ∙ ap (λ (s : Said). s.status) said

module _ (study : Question) (refutation : List ℕ) (wrote : Wrote Proof study refutation) (other : refutation ≢ codes "c possible\n")
    (words : List (List ℕ)) (d : Devices) (run : Run) (files : Files) (name proof : List ℕ) (workers : ℕ) (call : IsCall words d run) (told : d.told ≡ Some files)
    (asked : request_of words ≡ Some (Adopt name proof workers)) (g : GivesStudy files name study) (holds : HasFile files most_proof_bytes proof refutation) where
  zero_there : (text : List ℕ) → IsAdoption files name proof run text → run.status ≡ 0
  zero_there text row =
      proved_adopted study wrote.files files wrote.name name proof wrote.run run refutation text (row_written Proof study refutation wrote) wrote.given wrote.done other row g holds

  adopts_it : AdoptsIt words d run
  adopts_it = record {
    ends = λ low. let a = written_at words d run call (Some (Adopt name proof workers)) asked files (are_told told) low in zero_there a.0 a.1;
    completes = λ calm. elim (settled_row words d run call calm (Some (Adopt name proof workers)) files asked told) [
      | inl a ↦ inl (zero_there a.0 a.1)
      | inr seven ↦ inr seven
    ];
  }

pub proofs_adopted : WrittenProofsAreAdopted
proofs_adopted study refutation wrote other words d run files name proof workers call told asked g holds =
    adopts_it study refutation wrote other words d run files name proof workers call told asked g holds
