-- What is said of a report or a sharp text.
use Rattle.std.specs.Prelude.{ℕ, List, [], ◌∷◌, ◌++◌, codes}
use Rattle.verdicts.specs.Numbers.{number_text}
use Rattle.verdicts.specs.Words.{refusal_text}
use Rattle.verdicts.specs.declared.verdicts.Confirmed.{Confirmed}
use Rattle.verdicts.specs.declared.verdicts.Confirmed.TheVariants.{Possible, Impossible}
use Rattle.sharp_verdicts.specs.Judged.{sharp_refusal_text}
use Rattle.report_files.specs.declared.worths.Worth.{Worth}
use Rattle.report_files.specs.declared.worths.Worth.TheVariants as worth
use Rattle.report_files.specs.declared.worths.SharpWorth.{SharpWorth}
use Rattle.report_files.specs.declared.worths.SharpWorth.TheVariants as sharp_worth
use Rattle.report_files.specs.declared.worths.JudgedWorth.{JudgedWorth}
use Rattle.report_files.specs.declared.worths.JudgedWorth.TheVariants as judged_worth

-- the line of a report that is confirmed
abbrev pub confirmed_text : Confirmed → List ℕ
confirmed_text Possible = codes "confirmed possible\n"
confirmed_text Impossible = codes "confirmed impossible\n"

-- the line for what a report is worth
abbrev pub worth_text : Worth → List ℕ
worth_text (worth.Confirmed claim) = confirmed_text claim
worth_text (worth.Faulty line word) =
    codes "refused line " ++ (number_text line ++ codes ": " ++ refusal_text word ++ 10 ∷ [])
worth_text worth.TooLong = codes "refused: too long\n"

-- the line for what a sharp text is worth
abbrev pub sharp_worth_text : SharpWorth → List ℕ
sharp_worth_text sharp_worth.Confirmed = codes "confirmed sharp\n"
sharp_worth_text (sharp_worth.Faulty line word) =
    codes "refused line " ++ (number_text line ++ codes ": " ++ sharp_refusal_text word ++ 10 ∷ [])
sharp_worth_text sharp_worth.TooLong = codes "refused: too long\n"

-- the line for what either is worth
abbrev pub judged_worth_text : JudgedWorth → List ℕ
judged_worth_text (judged_worth.Report w) = worth_text w
judged_worth_text (judged_worth.Sharp w) = sharp_worth_text w
