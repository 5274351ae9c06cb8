-- What is answered of a text that may be a report or a sharp text, and what is printed of it.
use Rattle.std.specs.Prelude.{ℕ, Bool, List, [], ◌∷◌, ◌++◌, length, take, codes, if◌then◌else◌}
use Rattle.std.specs.Str.{bytes_eq}
use Rattle.vocab.specs.Study.{Question}
use Rattle.verdicts.specs.declared.refusals.Refusal.{Refusal}
use Rattle.verdicts.specs.declared.verdicts.Verdict.{Verdict}
use Rattle.verdicts.specs.FirstFault.{Judgement}
use Rattle.verdicts.specs.Judge.{answer_within}
use Rattle.verdicts.specs.Words.{refusal_text, judgement_text, answer_text}
use Rattle.sharp_verdicts.specs.declared.refusals.SharpRefusal.{SharpRefusal}
use Rattle.sharp_verdicts.specs.declared.refusals.SharpRefusal.TheVariants.{Report, Instance}
use Rattle.sharp_verdicts.specs.Right.{Pointed}
use Rattle.sharp_verdicts.specs.SharpJudge.{sharp_answer_within}

-- ---- which judge answers

-- the title of a sharp text, with its line end
abbrev pub sharp_title : List ℕ
sharp_title = codes "bench sharp 1" ++ 10 ∷ []

-- a text has that title as its first line
abbrev pub has_sharp_title : List ℕ → Bool
has_sharp_title text = bytes_eq (take (length sharp_title) text) sharp_title

-- the answer of the judge of reports, or of the judge of sharp texts
pub data Judged : Type 0 where
  AsReport : Judgement Verdict Refusal → Judged
  AsSharp : Judgement Pointed SharpRefusal → Judged

-- the answer to a text of which so many bytes are read: a text with the title of a sharp text is judged as one, and each other text as a report
abbrev pub judged_within : ℕ → Question → List ℕ → Judged
judged_within limit study text =
    if has_sharp_title text then AsSharp (sharp_answer_within limit study text) else AsReport (answer_within limit study text)

-- ---- what is printed

-- the word of a refusal
abbrev pub sharp_refusal_text : SharpRefusal → List ℕ
sharp_refusal_text (Report word) = refusal_text word
sharp_refusal_text Instance = codes "instance"

-- the line of an answer to a sharp text, with its line end
abbrev pub sharp_answer_text : Judgement Pointed SharpRefusal → List ℕ
sharp_answer_text = judgement_text (λ v. codes "sharp") sharp_refusal_text

-- the line of an answer, with its line end
abbrev pub judged_text : Judged → List ℕ
judged_text (AsReport judgement) = answer_text judgement
judged_text (AsSharp judgement) = sharp_answer_text judgement
