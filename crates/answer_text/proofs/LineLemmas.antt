-- The lines of the library, and those of answers.
use Rattle.std.proofs.Common.{ap, ℕ, zero, suc, ◌<◌, length, List, [], ◌∷◌, get_or, slice_get, IsSomeAnd, arith}
use Rattle.verdicts.specs.declared.verdicts.Verdict.TheVariants.{Undecided}
use Rattle.verdicts.specs.FirstFault.{Confirmed, Faulty, TooLong}
use Rattle.sharp_verdicts.specs.Judged.{AsReport, AsSharp}
use Rattle.report_files.specs.declared.worths.JudgedWorth.TheVariants.{Report, Sharp}
use Rattle.answer_text.specs.Laws.{AreLinesOfAnswers, AreLinesOfJudged}
use Rattle.answer_text.specs.Said.{worth_text, sharp_worth_text}

-- what holds of the item at a place
pub at_place : {A : Type 0} (P : A → Type 0) (xs : List A) (i : ℕ) (d : A) → i < length xs → IsSomeAnd (slice_get xs i) P → P (get_or xs i d)
at_place P [] i d within h = absurd h
at_place P (x ∷ xs) zero d within h = h
at_place P (x ∷ xs) (suc i) d within h = at_place P xs i d (omega arith) h

pub lines_of_answers : AreLinesOfAnswers
lines_of_answers (Confirmed Undecided) w is = absurd is
lines_of_answers answer w is = ap worth_text is

pub lines_of_judged : AreLinesOfJudged
lines_of_judged (AsReport a) (Report w) is = lines_of_answers a w is
lines_of_judged (AsSharp (Confirmed v)) (Sharp w) is = ap sharp_worth_text is
lines_of_judged (AsSharp (Faulty line word)) (Sharp w) is = ap sharp_worth_text is
lines_of_judged (AsSharp TooLong) (Sharp w) is = ap sharp_worth_text is
lines_of_judged (AsReport a) (Sharp w) is = absurd is
lines_of_judged (AsSharp a) (Report w) is = absurd is
