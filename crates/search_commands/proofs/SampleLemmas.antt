-- `sample`, from what a search found to the line that says so.
use Rattle.std.proofs.Common.{◌≡◌, ◌≢◌, refl, ap, subst, sym, ℕ, List, length, Option, Some, Result, Ok, Err, IfOk, arith}
use Rattle.edge.specs.Shelf.{Files}
use Rattle.vocab.specs.Study.{Question}
use Rattle.words.specs.Words.{Request, Sample}
use Rattle.search_logs.specs.declared.logs.SearchLog.{SearchLog}
use Rattle.search_logs.specs.Spent.{AreSpentLogs}
use Rattle.verdicts.specs.declared.verdicts.Verdict.{Verdict}
use Rattle.answers.specs.declared.runs.Run.{Run}
use Rattle.answers.specs.Grounding.{all_clauses}
use Rattle.answers.specs.Sample.{summary_text, IsSummed, IsSampled}
use Rattle.command_parts.specs.declared.answer.Answer.{Answer}
use Rattle.command_parts.specs.declared.answer.Answer.TheVariants as answer
use Rattle.command_parts.specs.declared.answer.Stop.{Stop}
use Rattle.command_parts.specs.declared.answer.Stop.TheVariants as stop
use Rattle.command_parts.specs.Answers.{HasText, run_of, text_of}
use Rattle.command_parts.specs.Answered.{Answers}
use Rattle.search_commands.specs.Found.{IsVerdict}
use Rattle.command_parts.proofs.AnswerLemmas.{bare_answer, no_memory}
use Rattle.command_parts.proofs.StudyLemmas.{IsLow, low_among, over_low}
use Rattle.search_commands.proofs.DecideLemmas.{decides_low, decided}

-- the summary of a verdict that was found decides the study
pub summed : (n clauses : ℕ) (study : Question) (logs : List SearchLog) (verdict : Verdict) → clauses ≡ length (all_clauses study)
    → IsVerdict study logs verdict → AreSpentLogs study logs
    → IsSummed n study (run_of (answer.Summary n study clauses verdict logs)) (text_of (answer.Summary n study clauses verdict logs))
summed n clauses study logs verdict count v spent = record {
  verdict = verdict;
  decides = decided study logs verdict v spent;
  is = ap (λ (c : ℕ). summary_text n study c verdict) count;
}

-- statuses of a sample
sampled_low : (n : ℕ) (run : Run) (text : List ℕ) → IsSampled n run text → IsLow (Some (Sample n)) run.status
sampled_low n run text (study, sample, row) =
    over_low (Some (Sample n)) study run text (IsSummed n study run text) (low_among (Some (Sample n)) 3 refl (omega arith))
    (λ r. decides_low (Some (Sample n)) study run r.verdict (low_among (Some (Sample n)) 0 refl (omega arith)) (low_among (Some (Sample n)) 4 refl (omega arith)) r.decides) row

-- `sample` reads no file
pub sample_answer : (request : Option Request) (told : Option Files) (left : Files) (faults : List ℕ → ℕ) (n : ℕ) (result : Result Answer Stop) → request ≡ Some (Sample n)
    → IfOk result (λ answer. IsSampled n (run_of answer) (text_of answer)) → IfOk result HasText → result ≢ Err stop.ReadFault
    → Answers request told left left faults faults result
sample_answer request told left faults n (Ok a) asked row has_text read =
    let low = sampled_low n (run_of a) (text_of a) row in
    subst (λ (r : Option Request). Answers r told left left faults faults (Ok a)) (sym asked)
    (bare_answer (Some (Sample n)) told left faults a low.1 has_text low.0 (λ files. row))
sample_answer request told left faults n (Err stop.NoMemory) asked row has_text read = no_memory request told left faults
sample_answer request told left faults n (Err stop.ReadFault) asked row has_text read = absurd (read refl)
