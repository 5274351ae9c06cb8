-- `decide`, from what a search found to what is reported.
use Rattle.std.proofs.Common.{refl, ℕ, List, Option, Some, None, arith}
use Rattle.std.specs.Prelude.{IsTrue}
use Rattle.vocab.specs.Study.{Question}
use Rattle.words.specs.Words.{Request, Decide}
use Rattle.search_logs.specs.declared.logs.SearchLog.{SearchLog}
use Rattle.search_logs.specs.Spent.{AreSpentLogs}
use Rattle.verdicts.specs.declared.verdicts.Verdict.{Verdict}
use Rattle.verdicts.specs.declared.verdicts.Verdict.TheVariants.{Possible, Impossible, Undecided}
use Rattle.verdicts.specs.Laws.{IsReportable}
use Rattle.verdicts.specs.Report.{is_right}
use Rattle.verdicts.proofs.RightLaws.{right_has_text}
use Rattle.answers.specs.declared.runs.Run.{Run}
use Rattle.answers.specs.Decide.{IsReported}
use Rattle.answers.specs.Evidence.{Decides, by_verdict, by_limit}
use Rattle.answers.specs.Grounding.{OverClauses}
use Rattle.answers.specs.Call.{statuses_of}
use Rattle.answers.proofs.AmongLemmas.{found_among}
use Rattle.command_parts.specs.declared.answer.Answer.TheVariants as answer
use Rattle.command_parts.specs.Answers.{HasText, report_status, run_of, text_of}
use Rattle.search_commands.specs.Found.{IsVerdict}
use Rattle.command_parts.proofs.StudyLemmas.{IsStudyCommand, IsLow, low_among, low_at, over_low}

-- a verdict that was found decides the study, in every run that has it with its status and its logs
pub decided : (study : Question) (logs : List SearchLog) (verdict : Verdict) → IsVerdict study logs verdict → AreSpentLogs study logs
    → Decides study (record { status = report_status verdict; verdict = Some verdict; logs = logs; sharp = None }) verdict
decided study logs (Possible table) v spent =
    by_verdict (record { ends = refl; told = refl; claims_some = refl; right = v.0; backed = v.1; logs = spent; no_sharp = refl })
decided study logs (Impossible core story witnesses) v spent =
    by_verdict (record { ends = refl; told = refl; claims_some = refl; right = v.0; backed = v.1; logs = spent; no_sharp = refl })
decided study logs Undecided v spent = by_limit (record { ends = refl; told = refl; spent = v; logs = spent; no_sharp = refl }) refl

-- the report of a verdict that was found
pub reported : (study : Question) (logs : List SearchLog) (verdict : Verdict) → IsVerdict study logs verdict → AreSpentLogs study logs
    → IsReported study (run_of (answer.Report study verdict logs)) (text_of (answer.Report study verdict logs))
reported study logs verdict v spent = record { verdict = verdict; decides = decided study logs verdict v spent; is = refl }

-- and has a text
right_verdict : (study : Question) (logs : List SearchLog) (verdict : Verdict) → IsVerdict study logs verdict → IsTrue (is_right study verdict)
right_verdict study logs (Possible table) v = v.0
right_verdict study logs (Impossible core story witnesses) v = v.0
right_verdict study logs Undecided v = refl

pub reported_text : (study : Question) (logs : List SearchLog) (verdict : Verdict) → IsReportable study → IsVerdict study logs verdict
    → HasText (answer.Report study verdict logs)
reported_text study logs verdict whole v = right_has_text study whole verdict (right_verdict study logs verdict v)

-- `decide` is a command over a study
abbrev IsRest : Question → Run → List ℕ → Type 0
IsRest study run text = OverClauses study run text (IsReported study run text)

pub decides_low : (request : Option Request) (study : Question) (run : Run) (verdict : Verdict) → IsLow request 0 → IsLow request 4
    → Decides study run verdict → IsLow request run.status
decides_low request study run verdict zero_low four_low (by_verdict found) = low_at request 0 run.status found.ends zero_low
decides_low request study run verdict zero_low four_low (by_limit u is) = low_at request 4 run.status u.ends four_low

pub decide_command : (name : List ℕ) (workers : ℕ) → IsStudyCommand (Some (Decide name workers)) name IsRest
decide_command name workers = record {
  one = refl;
  into = λ files run text h. h;
  can_refuse = low_among (Some (Decide name workers)) 3 refl (omega arith);
  can_fail = found_among (statuses_of (Some (Decide name workers))) 5 refl;
  ends = λ study run text.
      over_low (Some (Decide name workers)) study run text (IsReported study run text) (low_among (Some (Decide name workers)) 3 refl (omega arith))
      (λ r. decides_low (Some (Decide name workers)) study run r.verdict (low_among (Some (Decide name workers)) 0 refl (omega arith)) (low_among (Some (Decide name workers)) 4 refl (omega arith)) r.decides);
}
