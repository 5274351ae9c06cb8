-- What `sharpen` says, row by row.
use Rattle.std.proofs.Common.{◌≡◌, ◌∙◌, sym, subst, ℕ, ◌≤◌, ◌⊎◌, inl, inr, true, false, true≢false, List, None, Some}
use Rattle.std.specs.Io.KnownBytes.{Appends}
use Rattle.edge.specs.Shelf.{Files}
use Rattle.vocab.specs.Study.{Question}
use Rattle.clause_form.specs.declared.refusals.GroundFault.{GroundFault}
use Rattle.verdicts.specs.declared.verdicts.Verdict.{Verdict}
use Rattle.words.specs.Words.{Sharpen, request_of}
use Rattle.sharp_verdicts.specs.Totals.{passes_clause_limits, total}
use Rattle.answers.specs.declared.runs.Run.{Run}
use Rattle.answers.specs.Studies.{GivesStudy, RefusesStudy}
use Rattle.answers.specs.Grounding.{clauses_fault, refusal_line, OverClauses}
use Rattle.answers.specs.Evidence.{Decides, by_verdict, by_limit}
use Rattle.answers.specs.Sharpen.{total_line, Sharpens, total_refused, decided, sharpened}
use Rattle.answers.specs.Lawful.{IsBenchAnswer}
use Rattle.answers.specs.Devices.{Devices}
use Rattle.answers.specs.Call.{IsCall, are_told}
use Rattle.answers.specs.Laws.{Says}
use Rattle.answers.specs.SharpenLaws.{SharpeningsAreAnswered}
use Rattle.answers.proofs.DeviceLaws.{refused_row, written_at}
use Rattle.answers.proofs.CallLaws.{given_clauses}
use Rattle.answers.proofs.RowLemmas.{clauses_row, over_study}

total_row : (study : Question) (run : Run) (text : List ℕ) → passes_clause_limits (total study) ≡ true → Sharpens study run text → (run.status ≡ 3) × (text ≡ total_line (total study))
total_row study run text over (total_refused over' is bare) = (bare.ends, is)
total_row study run text over (decided within reported other) = absurd (true≢false (sym over ∙ within))
total_row study run text over (sharpened within s) = absurd (true≢false (sym over ∙ within))

decides_row : (study : Question) (run : Run) (verdict : Verdict) → Decides study run verdict → (run.status ≡ 0) ⊎ (run.status ≡ 4)
decides_row study run verdict (by_verdict found) = inl found.ends
decides_row study run verdict (by_limit u is) = inr u.ends

decided_row : (study : Question) (run : Run) (text : List ℕ) → passes_clause_limits (total study) ≡ false → Sharpens study run text → (run.status ≡ 0) ⊎ (run.status ≡ 4)
decided_row study run text within (total_refused over is bare) = absurd (true≢false (sym over ∙ within))
decided_row study run text within (decided less reported other) = decides_row study run reported.verdict reported.decides
decided_row study run text within (sharpened less s) = inl s.ends

module _ (words : List (List ℕ)) (d : Devices) (run : Run) (files : Files) (name : List ℕ) (workers : ℕ) (call : IsCall words d run) (told : d.told ≡ Some files)
    (asked : request_of words ≡ Some (Sharpen name workers)) (low : run.status ≤ 4) where
  row_there : (text : List ℕ) × IsBenchAnswer (Some (Sharpen name workers)) files run text × Appends d.taken_before d.taken_now text
  row_there = written_at words d run call (Some (Sharpen name workers)) asked files (are_told told) low

  -- a row that gives a text was said
  said : (text : List ℕ) → (run.status ≡ 3) × (row_there.0 ≡ text) → Says d run 3 text
  said text row = (row.0, subst (λ (t : List ℕ). Appends d.taken_before d.taken_now t) row.1 row_there.2)

  row_over : (study : Question) → GivesStudy files name study → OverClauses study run row_there.0 (Sharpens study run row_there.0)
  row_over study g = over_study files name run row_there.0 (λ s. OverClauses s run row_there.0 (Sharpens s run row_there.0)) study g row_there.1

  row_within : (study : Question) → GivesStudy files name study → clauses_fault study ≡ None → Sharpens study run row_there.0
  row_within study g none = given_clauses study run row_there.0 (Sharpens study run row_there.0) none (row_over study g)

  refused_says : (text : List ℕ) → RefusesStudy files name text → Says d run 3 text
  refused_says text refuses = said text (refused_row files name run row_there.0 text _ refuses row_there.1)

  clauses_says : (study : Question) (fault : GroundFault) → GivesStudy files name study → clauses_fault study ≡ Some fault → Says d run 3 (refusal_line study fault)
  clauses_says study fault g is = said _ (clauses_row study fault run row_there.0 _ is (row_over study g))

  total_says : (study : Question) → GivesStudy files name study → clauses_fault study ≡ None → passes_clause_limits (total study) ≡ true → Says d run 3 (total_line (total study))
  total_says study g none over = said _ (total_row study run row_there.0 over (row_within study g none))

  decided_says : (study : Question) → GivesStudy files name study → clauses_fault study ≡ None → passes_clause_limits (total study) ≡ false → (run.status ≡ 0) ⊎ (run.status ≡ 4)
  decided_says study g none within = decided_row study run row_there.0 within (row_within study g none)

pub sharpenings_answered : SharpeningsAreAnswered
sharpenings_answered words d run files name workers call told asked low = record {
  refused = refused_says words d run files name workers call told asked low;
  clauses_refused = clauses_says words d run files name workers call told asked low;
  total_refused = total_says words d run files name workers call told asked low;
  decided = decided_says words d run files name workers call told asked low;
}
