-- Commands over the clauses of all axioms: the clauses are refused, or written.
use Rattle.std.proofs.Common.{◌≢◌, refl, ℕ, List, Some, arith}
use Rattle.vocab.specs.Study.{Question}
use Rattle.words.specs.Words.{Export}
use Rattle.clause_form.specs.declared.refusals.GroundFault.{GroundFault}
use Rattle.clause_form.specs.declared.refusals.GroundFault.TheVariants.{NoMemory}
use Rattle.clause_form.specs.Refusals.{IsRefused}
use Rattle.answers.specs.declared.runs.Run.{Run}
use Rattle.answers.specs.Export.{IsWritten}
use Rattle.answers.specs.Grounding.{clauses_fault, OverClauses, clauses_refused}
use Rattle.answers.specs.Call.{statuses_of}
use Rattle.answers.proofs.AmongLemmas.{found_among}
use Rattle.command_parts.specs.declared.answer.Answer.TheVariants as answer
use Rattle.command_parts.specs.Answers.{run_of, text_of}
use Rattle.command_parts.proofs.StudyLemmas.{IsStudyCommand, low_among, low_at, over_low}
use Rattle.answers.proofs.RowLemmas.{refusal_is}

-- the clauses are refused
pub no_clauses : (study : Question) (fault : GroundFault) (P : Type 0) → fault ≢ NoMemory → IsRefused fault (clauses_fault study)
    → OverClauses study (run_of (answer.NoClauses study fault)) (text_of (answer.NoClauses study fault)) P
no_clauses study fault P known is =
    clauses_refused fault (refusal_is fault (clauses_fault study) known is) refl (record { ends = refl; no_verdict = refl; no_logs = refl; no_sharp = refl })

-- `export` is a command over a study
abbrev IsRest : Question → Run → List ℕ → Type 0
IsRest study run text = OverClauses study run text (IsWritten study run text)

pub export_command : (name : List ℕ) (workers : ℕ) → IsStudyCommand (Some (Export name workers)) name IsRest
export_command name workers = record {
  one = refl;
  into = λ files run text h. h;
  can_refuse = low_among (Some (Export name workers)) 3 refl (omega arith);
  can_fail = found_among (statuses_of (Some (Export name workers))) 5 refl;
  ends = λ study run text.
      over_low (Some (Export name workers)) study run text (IsWritten study run text) (low_among (Some (Export name workers)) 3 refl (omega arith))
      (λ r. low_at (Some (Export name workers)) 0 run.status r.0.ends (low_among (Some (Export name workers)) 0 refl (omega arith)));
}
