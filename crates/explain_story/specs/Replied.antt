-- The reply to what was read of a report or a sharp text.
use Rattle.std.specs.Prelude.{◌≡◌, ℕ, List}
use Rattle.vocab.specs.Study.{Question}
use Rattle.report_files.specs.declared.worths.Worth.TheVariants as worth
use Rattle.report_files.specs.declared.worths.SharpWorth.TheVariants as sharp_worth
use Rattle.report_files.specs.declared.worths.JudgedWorth.TheVariants as judged
use Rattle.verdict_reading.specs.declared.reading.Reading.{Reading}
use Rattle.verdict_reading.specs.declared.reading.Reading.TheVariants as reading
use Rattle.verdict_reading.specs.SharpCollected.{as_said}
use Rattle.command_parts.specs.declared.answer.Answer.TheVariants.{Judged}
use Rattle.explain_answers.specs.Page.{IsPageText, IsSharpPageText}
use Rattle.explain_parts.specs.declared.reply.Reply.{Reply}
use Rattle.explain_parts.specs.declared.reply.Reply.TheVariants as reply

-- a page of the verdict, and what is refused is answered as `check` answers
abbrev pub IsReplyTo : Question → (name report : List ℕ) → Reading → Reply → Type 0
IsReplyTo study name report (reading.Confirmed verdict) (reply.Page page) = IsPageText study name report verdict page
IsReplyTo study name report (reading.Faulty line word) r = r ≡ reply.Refused (Judged (judged.Report (worth.Faulty line word)))
IsReplyTo study name report reading.TooLong r = r ≡ reply.Refused (Judged (judged.Report worth.TooLong))
IsReplyTo study name report (reading.SharpConfirmed v) (reply.Page page) = IsSharpPageText study name report (as_said v) page
IsReplyTo study name report (reading.SharpFaulty line word) r = r ≡ reply.Refused (Judged (judged.Sharp (sharp_worth.Faulty line word)))
IsReplyTo study name report reading.SharpTooLong r = r ≡ reply.Refused (Judged (judged.Sharp sharp_worth.TooLong))
IsReplyTo study name report (reading.Confirmed verdict) r = ⊥
IsReplyTo study name report (reading.SharpConfirmed v) r = ⊥
