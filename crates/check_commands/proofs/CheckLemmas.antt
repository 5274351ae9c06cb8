-- `check`, from what each part promises to what the command does.
use Rattle.std.proofs.Common.{◌≡◌, sym, refl, subst, ℕ, ◌≤◌, List, [], ◌∷◌, Option, Some, IfSome, Result, Ok, Err, IfOk, arith}
use Rattle.edge.specs.Shelf.{Files}
use Rattle.vocab.specs.Study.{Question}
use Rattle.verdicts.specs.declared.verdicts.Verdict.{Verdict}
use Rattle.verdicts.specs.declared.verdicts.Verdict.TheVariants.{Possible, Impossible, Undecided}
use Rattle.verdicts.specs.declared.refusals.Refusal.{Refusal}
use Rattle.verdicts.specs.FirstFault.{Judgement, Confirmed, Faulty, TooLong}
use Rattle.verdicts.specs.Words.{answer_text}
use Rattle.sharp_verdicts.specs.declared.refusals.SharpRefusal.{SharpRefusal}
use Rattle.sharp_verdicts.specs.Right.{Pointed}
use Rattle.sharp_verdicts.specs.Judged.{Judged as OfEither, AsReport, AsSharp, judged_text, sharp_answer_text}
use Rattle.report_files.specs.declared.worths.Worth.{Worth}
use Rattle.report_files.specs.declared.worths.Worth.TheVariants as worth
use Rattle.report_files.specs.declared.worths.SharpWorth.{SharpWorth}
use Rattle.report_files.specs.declared.worths.SharpWorth.TheVariants as sharp_worth
use Rattle.report_files.specs.declared.worths.JudgedWorth.{JudgedWorth}
use Rattle.report_files.specs.declared.worths.JudgedWorth.TheVariants as judged_worth
use Rattle.report_files.specs.Files.{IsWorth, IsSharpWorth, IsJudgedWorth, IsJudgedWorthOf}
use Rattle.words.specs.Words.{Check}
use Rattle.answers.specs.Studies.{study_refused, study_given}
use Rattle.answers.specs.Check.{IsChecked, IsJudged, judged, judgement_status, judged_status}
use Rattle.answers.specs.Call.{AreFiles, are_told, none_read}
use Rattle.command_parts.specs.declared.answer.Answer.{Answer}
use Rattle.command_parts.specs.declared.answer.Answer.TheVariants.{Judged}
use Rattle.command_parts.specs.declared.answer.Stop.{Stop}
use Rattle.answer_text.specs.Said.{worth_text, sharp_worth_text, judged_worth_text}
use Rattle.command_parts.specs.Answers.{run_of, text_of, worth_status, sharp_status, judged_worth_status}
use Rattle.command_parts.specs.Opened.{IsStudyRead, Refuses}
use Rattle.command_parts.proofs.OpenLemmas.{given, if_some}
use Rattle.command_parts.proofs.PairLemmas.{IsPairCommand}

-- ---- what is said of a report or a sharp text

abbrev SaidAs : Judgement Verdict Refusal → Worth → Type 0
SaidAs a w = (worth_status w ≡ judgement_status a) × (worth_text w ≡ answer_text a)

abbrev SharpSaidAs : Judgement Pointed SharpRefusal → SharpWorth → Type 0
SharpSaidAs a w = (sharp_status w ≡ judgement_status a) × (sharp_worth_text w ≡ sharp_answer_text a)

-- what is said for what a report is worth is what the judge answers
by_judgement : (a : Judgement Verdict Refusal) (w : Worth) → IsWorth a w → SaidAs a w
by_judgement (Confirmed (Possible table)) w is = subst (λ (x : Worth). SaidAs (Confirmed (Possible table)) x) (sym is) (refl, refl)
by_judgement (Confirmed (Impossible core story witnesses)) w is = subst (λ (x : Worth). SaidAs (Confirmed (Impossible core story witnesses)) x) (sym is) (refl, refl)
by_judgement (Confirmed Undecided) w is = absurd is
by_judgement (Faulty line word) w is = subst (λ (x : Worth). SaidAs (Faulty line word) x) (sym is) (refl, refl)
by_judgement TooLong w is = subst (λ (x : Worth). SaidAs TooLong x) (sym is) (refl, refl)

-- the same of a sharp text
by_sharp_judgement : (a : Judgement Pointed SharpRefusal) (w : SharpWorth) → IsSharpWorth a w → SharpSaidAs a w
by_sharp_judgement (Confirmed v) w is = subst (λ (x : SharpWorth). SharpSaidAs (Confirmed v) x) (sym is) (refl, refl)
by_sharp_judgement (Faulty line word) w is = subst (λ (x : SharpWorth). SharpSaidAs (Faulty line word) x) (sym is) (refl, refl)
by_sharp_judgement TooLong w is = subst (λ (x : SharpWorth). SharpSaidAs TooLong x) (sym is) (refl, refl)

-- the same of either
by_either : (a : OfEither) (w : JudgedWorth) → IsJudgedWorth a w → (judged_worth_status w ≡ judged_status a) × (judged_worth_text w ≡ judged_text a)
by_either (AsReport a) (judged_worth.Report w) is = by_judgement a w is
by_either (AsReport a) (judged_worth.Sharp w) is = absurd is
by_either (AsSharp a) (judged_worth.Report w) is = absurd is
by_either (AsSharp a) (judged_worth.Sharp w) is = by_sharp_judgement a w is

-- the answer to a report or a sharp text in a file that may be told
pub judged_file : (told : Option Files) (study : Question) (report : List ℕ) (w : JudgedWorth) → IfSome told (λ files. IsJudgedWorthOf study files report w)
    → (files : Files) → told ≡ Some files → IsJudged files report study (run_of (Judged w)) (text_of (Judged w))
judged_file told study report w is files e =
    let (bytes, held, worth_is) = if_some told (λ files. IsJudgedWorthOf study files report w) files is e in
    let said = by_either (judged study bytes) w worth_is in
    record { bytes = bytes; held = held; ends = record { ends = said.0; no_verdict = refl; no_logs = refl; no_sharp = refl }; is = said.1 }

-- its status is at most 1
pub worth_low : (w : Worth) → worth_status w ≤ 1
worth_low (worth.Confirmed claim) = omega arith
worth_low (worth.Faulty line word) = omega arith
worth_low worth.TooLong = omega arith

pub judged_low : (w : JudgedWorth) → judged_worth_status w ≤ 1
judged_low (judged_worth.Report w) = worth_low w
judged_low (judged_worth.Sharp sharp_worth.Confirmed) = omega arith
judged_low (judged_worth.Sharp (sharp_worth.Faulty line word)) = omega arith
judged_low (judged_worth.Sharp sharp_worth.TooLong) = omega arith

-- ---- the command

pub check_command : (name report : List ℕ) (workers : ℕ) → IsPairCommand (Some (Check name report workers)) name report
check_command name report workers = record { two = refl; statuses = refl }

module _ (told : Option Files) (name report : List ℕ) where
  -- the report is judged over the study that was read
  pub judged_rows : (study : Question) (result : Result Answer Stop) → IsStudyRead told name study
      → IfOk result (λ answer. (files : Files) → told ≡ Some files → IsJudged files report study (run_of answer) (text_of answer))
      → (files : Files) → AreFiles told (name ∷ report ∷ []) files → IfOk result (λ answer. IsChecked files name report (run_of answer) (text_of answer))
  judged_rows study (Ok answer) read judged files (are_told e) = study_given study (given told name study files read e) (judged files e)
  judged_rows study (Ok answer) read judged files (none_read e) = absurd (cc)
  judged_rows study (Err stop) read judged files h = tt

  -- the study is refused
  pub refused_row : (answer : Answer) → Refuses told name answer → (files : Files) → AreFiles told (name ∷ report ∷ []) files
      → IsChecked files name report (run_of answer) (text_of answer)
  refused_row answer refuses files (are_told e) = study_refused (refuses.line files e) refuses.bare
  refused_row answer refuses files (none_read e) = absurd (cc)
