-- `sharpen`, from what a search found to what is written.
use Rattle.std.proofs.Common.{◌≡◌, refl, ap, subst, ℕ, List, Option, Some, None, arith, le-ltb}
use Rattle.std.specs.Prelude.{IsTrue, IsFalse, nat_lt}
use Rattle.std.proofs.lemmas.Bool.{or_from}
use Rattle.vocab.specs.Study.{Question}
use Rattle.meaning.specs.declared.clauses.Counts.{Counts}
use Rattle.clause_form.specs.Refusals.{first_wide}
use Rattle.search_logs.specs.declared.logs.SearchLog.{SearchLog}
use Rattle.search_logs.specs.Spent.{all_places, AreSpentLogs}
use Rattle.verdicts.specs.declared.verdicts.Verdict.{Verdict}
use Rattle.sharp_verdicts.specs.declared.sharp.Sharp.{Sharp}
use Rattle.sharp_verdicts.specs.Sharpened.{IsSharpened}
use Rattle.sharp_verdicts.specs.Totals.{IsWithinTotal, passes_clause_limits, total}
use Rattle.instance_totals.specs.declared.totals.TotalFault.TheVariants.{Over}
use Rattle.instance_totals.specs.Totals.{IsTotalFault}
use Rattle.words.specs.Words.{Request, Sharpen}
use Rattle.answers.specs.declared.runs.Run.{Run}
use Rattle.answers.specs.Grounding.{OverClauses, clauses_fault}
use Rattle.answers.specs.Sharpen.{Sharpens, is_impossible, total_line, total_refused, decided, sharpened}
use Rattle.answers.specs.Call.{statuses_of}
use Rattle.answers.proofs.AmongLemmas.{found_among}
use Rattle.command_parts.specs.declared.answer.Answer.TheVariants as answer
use Rattle.command_parts.specs.Answers.{run_of, text_of}
use Rattle.command_parts.proofs.StudyLemmas.{IsStudyCommand, IsLow, low_among, low_at, over_low}
use Rattle.search_commands.specs.Found.{IsVerdict}
use Rattle.search_commands.proofs.DecideLemmas.{decided as verdict_decided, decides_low}
use Rattle.lists.proofs.OptionLaws.{none_of_either}

-- ---- the total

pub narrow : (study : Question) → clauses_fault study ≡ None → first_wide study.size study.axioms (all_places study) ≡ None
narrow study none = (none_of_either _ _ none).0

-- a total within the limits passes none
not_over : (study : Question) → IsWithinTotal study → IsFalse (passes_clause_limits (total study))
not_over study within =
    or_from (nat_lt 4000000 (total study).clauses) (nat_lt 60000000 (total study).literals) (le-ltb 4000000 (total study).clauses within.clauses)
    (le-ltb 60000000 (total study).literals within.literals)

-- ---- the three answers

module _ (study : Question) where
  -- all instances together are too many
  pub over_row : (counts : Counts) → IsTotalFault study (Over counts)
      → Sharpens study (run_of (answer.OverTotal counts)) (text_of (answer.OverTotal counts))
  over_row counts (same, over) =
      total_refused (subst (λ (c : Counts). IsTrue (passes_clause_limits c)) same over) (ap total_line same) (record { ends = refl; no_verdict = refl; no_logs = refl; no_sharp = refl })

  -- a verdict was found that is no impossibility
  pub decided_row : (logs : List SearchLog) (verdict : Verdict) → IsWithinTotal study → IsVerdict study logs verdict → AreSpentLogs study logs
      → IsFalse (is_impossible verdict) → Sharpens study (run_of (answer.Report study verdict logs)) (text_of (answer.Report study verdict logs))
  decided_row logs verdict within v spent other =
      decided (not_over study within) (record { verdict = verdict; decides = verdict_decided study logs verdict v spent; is = refl }) other

  -- an impossibility was sharpened
  pub sharpened_row : (sharp : Sharp) (logs : List SearchLog) → IsWithinTotal study → IsSharpened study sharp → AreSpentLogs study logs
      → Sharpens study (run_of (answer.Sharp study sharp logs)) (text_of (answer.Sharp study sharp logs))
  sharpened_row sharp logs within right spent =
      sharpened (not_over study within) (record { sharp = sharp; ends = refl; told = refl; no_verdict = refl; logs = spent; right = right; is = refl })

-- ---- the command

-- `sharpen` is a command over a study
abbrev IsRest : Question → Run → List ℕ → Type 0
IsRest study run text = OverClauses study run text (Sharpens study run text)

sharpens_low : (request : Option Request) (study : Question) (run : Run) (text : List ℕ) → IsLow request 0 → IsLow request 3 → IsLow request 4
    → Sharpens study run text → IsLow request run.status
sharpens_low request study run text zero_low three_low four_low (total_refused over t bare) = low_at request 3 run.status bare.ends three_low
sharpens_low request study run text zero_low three_low four_low (decided within r other) = decides_low request study run r.verdict zero_low four_low r.decides
sharpens_low request study run text zero_low three_low four_low (sharpened within s) = low_at request 0 run.status s.ends zero_low

pub sharpen_command : (name : List ℕ) (workers : ℕ) → IsStudyCommand (Some (Sharpen name workers)) name IsRest
sharpen_command name workers = record {
  one = refl;
  into = λ files run text h. h;
  can_refuse = low_among (Some (Sharpen name workers)) 3 refl (omega arith);
  can_fail = found_among (statuses_of (Some (Sharpen name workers))) 5 refl;
  ends = λ study run text.
      over_low (Some (Sharpen name workers)) study run text (Sharpens study run text) (low_among (Some (Sharpen name workers)) 3 refl (omega arith))
      (sharpens_low (Some (Sharpen name workers)) study run text (low_among (Some (Sharpen name workers)) 0 refl (omega arith)) (low_among (Some (Sharpen name workers)) 3 refl (omega arith)) (low_among (Some (Sharpen name workers)) 4 refl (omega arith)));
}
