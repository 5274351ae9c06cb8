-- What holds of the lines of answers.
use Rattle.std.specs.Prelude.{◌≡◌}
use Rattle.verdicts.specs.declared.refusals.Refusal.{Refusal}
use Rattle.verdicts.specs.declared.verdicts.Verdict.{Verdict}
use Rattle.verdicts.specs.FirstFault.{Judgement}
use Rattle.verdicts.specs.Words.{answer_text}
use Rattle.sharp_verdicts.specs.Judged.{Judged, judged_text}
use Rattle.report_files.specs.declared.worths.JudgedWorth.{JudgedWorth}
use Rattle.report_files.specs.declared.worths.Worth.{Worth}
use Rattle.report_files.specs.Files.{IsWorth, IsJudgedWorth}
use Rattle.answer_text.specs.Said.{worth_text, judged_worth_text}

-- what is said of a report is the line of the answer that its worth stands for
abbrev pub AreLinesOfAnswers : Type 0
AreLinesOfAnswers = (answer : Judgement Verdict Refusal) (worth : Worth) → IsWorth answer worth →
    worth_text worth ≡ answer_text answer

-- the same of a report or a sharp text
abbrev pub AreLinesOfJudged : Type 0
AreLinesOfJudged = (answer : Judged) (worth : JudgedWorth) → IsJudgedWorth answer worth →
    judged_worth_text worth ≡ judged_text answer
