-- What `lrat` says, row by row.
use Rattle.std.proofs.Common.{◌≡◌, ◌∙◌, ap, ap₂, subst, ℕ, ◌≤◌, List, codes, Some, Ok}
use Rattle.std.specs.Io.KnownBytes.{Appends}
use Rattle.edge.specs.Shelf.{Files}
use Rattle.cnf.specs.declared.derivations.Line.{Line}
use Rattle.cnf.specs.Derived.{IsAccepted}
use Rattle.clause_text.specs.ReadDimacs.{Formula}
use Rattle.clause_text.specs.ReadLrat.{read_lrat}
use Rattle.words.specs.Words.{Lrat, request_of}
use Rattle.answers.specs.declared.runs.Run.{Run}
use Rattle.answers.specs.Call.{IsCall, are_told}
use Rattle.answers.specs.Devices.{Devices}
use Rattle.answers.specs.FileLimits.{most_proof_bytes, HasFile}
use Rattle.answers.specs.Laws.{Says}
use Rattle.answers.specs.Lrat.{GivesFormula, RefusesFormula, IsLratAnswer, formula_refused, proof_judged, Said, said_of}
use Rattle.answers.proofs.ConfirmedLaws.{said_accepted}
use Rattle.answers.proofs.DeviceLaws.{written_at}
use Rattle.answers.proofs.OneAnswer.{cnf_given, one_cnf}
use Rattle.answers.proofs.RowLemmas.{one_formula, some_same}
use Rattle.call_laws.specs.Rows.{RefutationsAreAnswered}
use Rattle.call_laws.proofs.RefusedRows.{said}

refused_row : (files : Files) (name proof : List ℕ) (run : Run) (text line : List ℕ) → RefusesFormula files name line → IsLratAnswer files name proof run text
    → (run.status ≡ 3) × (text ≡ line)
refused_row files name proof run text line refuses (formula_refused r bare) = (bare.ends, one_cnf files name text line r refuses)
refused_row files name proof run text line refuses (proof_judged formula bytes g held bare is) = absurd (cnf_given files name formula line g refuses)

judged_row : (files : Files) (name proof : List ℕ) (run : Run) (text : List ℕ) (formula : Formula) (bytes : List ℕ) → GivesFormula files name formula → files proof ≡ Some bytes
    → IsLratAnswer files name proof run text → (run.status ≡ (said_of formula bytes).status) × (text ≡ (said_of formula bytes).text)
judged_row files name proof run text formula bytes g held (formula_refused r bare) = absurd (cnf_given files name formula text g r)
judged_row files name proof run text formula bytes g held (proof_judged f bytes' g' held' bare is) =
    let same : said_of f bytes' ≡ said_of formula bytes = ap₂ said_of (one_formula files name f formula g' g) (some_same (files proof) bytes' bytes held' held) in
    (bare.ends ∙ ap (λ s. s.status) same, is ∙ ap (λ s. s.text) same)

module _ (words : List (List ℕ)) (d : Devices) (run : Run) (files : Files) (name proof : List ℕ) (call : IsCall words d run) (told : d.told ≡ Some files)
    (asked : request_of words ≡ Some (Lrat name proof)) (low : run.status ≤ 4) where
  row_there : (text : List ℕ) × IsLratAnswer files name proof run text × Appends d.taken_before d.taken_now text
  row_there = written_at words d run call (Some (Lrat name proof)) asked files (are_told told) low

  refused_says : (text : List ℕ) → RefusesFormula files name text → Says d run 3 text
  refused_says text refuses = said d run 3 row_there.0 text row_there.2 (refused_row files name proof run row_there.0 text refuses row_there.1)

  judged_says : (formula : Formula) (bytes : List ℕ) → GivesFormula files name formula → files proof ≡ Some bytes
      → Says d run (said_of formula bytes).status (said_of formula bytes).text
  judged_says formula bytes g held =
      said d run (said_of formula bytes).status row_there.0 (said_of formula bytes).text row_there.2 (judged_row files name proof run row_there.0 formula bytes g held row_there.1)

  accepted_says : (formula : Formula) (bytes : List ℕ) (lines : List Line) → GivesFormula files name formula → HasFile files most_proof_bytes proof bytes
      → read_lrat formula.variables bytes ≡ Ok lines → IsAccepted formula.clauses lines → Says d run 0 (codes "confirmed\n")
  accepted_says formula bytes lines g holds read accepted =
      subst (λ (s : Said). Says d run s.status s.text) (said_accepted formula bytes holds.fits (record { lines = lines; read = read; accepted = accepted }))
      (judged_says formula bytes g holds.held)

pub refutations_answered : RefutationsAreAnswered
refutations_answered words d run files name proof call told asked low = record {
  refused = refused_says words d run files name proof call told asked low;
  judged = judged_says words d run files name proof call told asked low;
  accepted = accepted_says words d run files name proof call told asked low;
}
