-- `proof`, from what a search found to what is shown.
use Rattle.std.proofs.Common.{refl, ℕ, List, Option, Some, arith}
use Rattle.cnf.specs.declared.derivations.Line.{Line}
use Rattle.vocab.specs.Study.{Question}
use Rattle.words.specs.Words.{Request, Proof}
use Rattle.search_logs.specs.declared.logs.SearchLog.{SearchLog}
use Rattle.search_logs.specs.Spent.{AreSpentLogs}
use Rattle.verdicts.specs.declared.verdicts.Verdict.TheVariants.{Possible}
use Rattle.core_reduce.specs.declared.answers.Shown.TheVariants as found
use Rattle.core_reduce.specs.Proofs.{IsShown}
use Rattle.answers.specs.declared.runs.Run.{Run}
use Rattle.answers.specs.Proof.{Proves, refuted, possible, undecided}
use Rattle.answers.specs.Grounding.{OverClauses}
use Rattle.answers.specs.Call.{statuses_of}
use Rattle.answers.proofs.AmongLemmas.{found_among}
use Rattle.command_parts.specs.declared.answer.Answer.TheVariants as answer
use Rattle.command_parts.specs.Answers.{run_of, text_of}
use Rattle.command_parts.proofs.StudyLemmas.{IsStudyCommand, IsLow, low_among, low_at, over_low}

module _ (study : Question) where
  pub rule_shown : (table : List ℕ) (logs : List SearchLog) → IsShown study logs (found.Possible table) → AreSpentLogs study logs
      → Proves study (run_of (answer.Claim (Possible table) logs)) (text_of (answer.Claim (Possible table) logs))
  rule_shown table logs right spent =
      possible table (record { ends = refl; told = refl; claims_some = refl; right = right; backed = tt; logs = spent; no_sharp = refl }) refl

  pub refutation_shown : (lines : List Line) (logs : List SearchLog) → IsShown study logs (found.Refuted lines)
      → Proves study (run_of (answer.Refutation lines)) (text_of (answer.Refutation lines))
  refutation_shown lines logs right =
      refuted lines (record { trimmed = right.0; over = right.1 }) (record { ends = refl; no_verdict = refl; no_logs = refl; no_sharp = refl }) refl

-- `proof` is a command over a study
abbrev IsRest : Question → Run → List ℕ → Type 0
IsRest study run text = OverClauses study run text (Proves study run text)

shown_low : (request : Option Request) (study : Question) (run : Run) (text : List ℕ) → IsLow request 0 → IsLow request 4 → Proves study run text
    → IsLow request run.status
shown_low request study run text zero_low four_low (refuted lines r bare t) = low_at request 0 run.status bare.ends zero_low
shown_low request study run text zero_low four_low (possible table f t) = low_at request 0 run.status f.ends zero_low
shown_low request study run text zero_low four_low (undecided u t) = low_at request 4 run.status u.ends four_low

pub proof_command : (name : List ℕ) (workers : ℕ) → IsStudyCommand (Some (Proof name workers)) name IsRest
proof_command name workers = record {
  one = refl;
  into = λ files run text h. h;
  can_refuse = low_among (Some (Proof name workers)) 3 refl (omega arith);
  can_fail = found_among (statuses_of (Some (Proof name workers))) 5 refl;
  ends = λ study run text.
      over_low (Some (Proof name workers)) study run text (Proves study run text) (low_among (Some (Proof name workers)) 3 refl (omega arith))
      (shown_low (Some (Proof name workers)) study run text (low_among (Some (Proof name workers)) 0 refl (omega arith)) (low_among (Some (Proof name workers)) 4 refl (omega arith)));
}
