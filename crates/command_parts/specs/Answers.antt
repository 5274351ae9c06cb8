-- What is said with an answer: its status, what its search found, and its text.
use Rattle.std.specs.Prelude.{ℕ, List, [], codes, Option, Some, None, IsTrue}
use Rattle.report_files.specs.declared.files.FileFault.{FileFault}
use Rattle.report_files.specs.declared.files.FileFault.TheVariants as file
use Rattle.report_files.specs.declared.worths.Worth.{Worth}
use Rattle.report_files.specs.declared.worths.Worth.TheVariants as worth
use Rattle.report_files.specs.declared.worths.SharpWorth.{SharpWorth}
use Rattle.report_files.specs.declared.worths.SharpWorth.TheVariants as sharp
use Rattle.report_files.specs.declared.worths.JudgedWorth.{JudgedWorth}
use Rattle.report_files.specs.declared.worths.JudgedWorth.TheVariants as judged
use Rattle.sharp_verdicts.specs.declared.sharp.Sharp.{Sharp}
use Rattle.sharp_verdicts.specs.Right.{pointed}
use Rattle.sharp_verdicts.specs.SharpLines.{sharp_text}
use Rattle.sharp_text.specs.Conditions.{has_sharp_text}
use Rattle.search_logs.specs.declared.logs.SearchLog.{SearchLog}
use Rattle.verdicts.specs.declared.verdicts.Verdict.{Verdict}
use Rattle.verdicts.specs.declared.verdicts.Verdict.TheVariants.{Undecided}
use Rattle.verdicts.specs.Report.{has_text, report_text}
use Rattle.clause_form.specs.Sources.{clauses_in}
use Rattle.clause_text.specs.Dimacs.{dimacs_text, size_text}
use Rattle.clause_text.specs.Lrat.{lrat_text}
use Rattle.answer_text.specs.Claims.{claim_line}
use Rattle.answer_text.specs.Said.{judged_worth_text}
use Rattle.answer_text.specs.Gains.{words_text}
use Rattle.answers.specs.declared.runs.Run.{Run}
use Rattle.answers.specs.StudyLines.{study_line}
use Rattle.answers.specs.Grounding.{refusal_line}
use Rattle.answers.specs.Lrat.{cnf_line, line_fault_text, proof_line, reading_text}
use Rattle.answers.specs.Usage.{usage_line}
use Rattle.answers.specs.Axioms.{library_text}
use Rattle.answers.specs.Sample.{summary_text}
use Rattle.answers.specs.Sharpen.{total_line}
use Rattle.command_parts.specs.declared.answer.Answer.{Answer}
use Rattle.command_parts.specs.declared.answer.Answer.TheVariants as answer
use Rattle.command_parts.specs.declared.answer.Stop.{Stop}
use Rattle.command_parts.specs.declared.answer.Stop.TheVariants as stop

-- why there is no answer, where a report was not checked
abbrev pub stop_of : FileFault → Stop
stop_of file.Failed = stop.ReadFault
stop_of file.NoMemory = stop.NoMemory

-- what a report is worth: 0 where it is confirmed, and 1 where it is refused
abbrev pub worth_status : Worth → ℕ
worth_status (worth.Confirmed claim) = 0
worth_status (worth.Faulty line word) = 1
worth_status worth.TooLong = 1

-- what a sharp text is worth: 0 where it is confirmed, and 1 where it is refused
abbrev pub sharp_status : SharpWorth → ℕ
sharp_status sharp.Confirmed = 0
sharp_status (sharp.Faulty line word) = 1
sharp_status sharp.TooLong = 1

-- what a text is worth that was judged
abbrev pub judged_worth_status : JudgedWorth → ℕ
judged_worth_status (judged.Report worth) = worth_status worth
judged_worth_status (judged.Sharp worth) = sharp_status worth

-- the report of a verdict: 4 where the search spent its limit
abbrev pub report_status : Verdict → ℕ
report_status Undecided = 4
report_status verdict = 0

abbrev pub answer_status : Answer → ℕ
answer_status answer.Usage = 2
answer_status answer.LongStudy = 3
answer_status (answer.NoStudy fault) = 3
answer_status (answer.NoClauses study fault) = 3
answer_status (answer.Report study verdict logs) = report_status verdict
answer_status (answer.OverTotal counts) = 3
answer_status (answer.Sharp study sharp logs) = 0
answer_status (answer.Judged worth) = judged_worth_status worth
answer_status answer.OtherKind = 3
answer_status answer.NoRule = 0
answer_status answer.NoGain = 0
answer_status (answer.Gain words) = 0
answer_status (answer.Clauses size variables clauses) = 0
answer_status (answer.Refutation lines) = 0
answer_status (answer.Claim verdict logs) = report_status verdict
answer_status answer.LongCnf = 3
answer_status (answer.NoCnf fault) = 3
answer_status answer.LongProof = 1
answer_status (answer.NoProof fault) = 1
answer_status (answer.BadProof line fault) = 1
answer_status answer.GoodProof = 0
answer_status (answer.Library kind) = 0
answer_status (answer.Summary number study clauses verdict logs) = report_status verdict

-- what its search found, where it tells of one
abbrev pub verdict_of : Answer → Option Verdict
verdict_of (answer.Report study verdict logs) = Some verdict
verdict_of (answer.Claim verdict logs) = Some verdict
verdict_of (answer.Summary number study clauses verdict logs) = Some verdict
verdict_of a = None

-- what sharpening came to, where it tells of it
abbrev pub sharp_of : Answer → Option Sharp
sharp_of (answer.Sharp study sharp logs) = Some sharp
sharp_of a = None

-- the searches that spent their limit
abbrev pub logs_of : Answer → List SearchLog
logs_of (answer.Report study verdict logs) = logs
logs_of (answer.Sharp study sharp logs) = logs
logs_of (answer.Claim verdict logs) = logs
logs_of (answer.Summary number study clauses verdict logs) = logs
logs_of a = []

abbrev pub run_of : Answer → Run
run_of a = record { status = answer_status a; verdict = verdict_of a; logs = logs_of a; sharp = sharp_of a }

abbrev pub text_of : Answer → List ℕ
text_of answer.Usage = usage_line
text_of answer.LongStudy = codes "study: too long\n"
text_of (answer.NoStudy fault) = study_line fault
text_of (answer.NoClauses study fault) = refusal_line study fault
text_of (answer.Report study verdict logs) = report_text study verdict
text_of (answer.OverTotal counts) = total_line counts
text_of (answer.Sharp study sharp logs) = sharp_text study (pointed sharp)
text_of (answer.Judged worth) = judged_worth_text worth
text_of answer.OtherKind = codes "study: kind not sets\n"
text_of answer.NoRule = codes "no rule\n"
text_of answer.NoGain = codes "none\n"
text_of (answer.Gain words) = words_text words
text_of (answer.Clauses size variables clauses) = dimacs_text (size_text size) variables (clauses_in clauses)
text_of (answer.Refutation lines) = lrat_text lines
text_of (answer.Claim verdict logs) = claim_line verdict
text_of answer.LongCnf = codes "cnf: too long\n"
text_of (answer.NoCnf fault) = cnf_line fault
text_of answer.LongProof = codes "proof: too long\n"
text_of (answer.NoProof fault) = reading_text fault
text_of (answer.BadProof line fault) = proof_line line (line_fault_text fault)
text_of answer.GoodProof = codes "confirmed\n"
text_of (answer.Library kind) = library_text kind
text_of (answer.Summary number study clauses verdict logs) = summary_text number study clauses verdict

-- the report of a verdict has a text where all that the verdict names is in range, and so has a sharp text
abbrev pub HasText : Answer → Type 0
HasText (answer.Report study verdict logs) = IsTrue (has_text study verdict)
HasText (answer.Sharp study sharp logs) = IsTrue (has_sharp_text study (pointed sharp))
HasText a = Unit {0}
