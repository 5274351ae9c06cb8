-- What holds of the texts of sharp verdicts: the statement of the law.
use Rattle.std.specs.Prelude.{IsTrue}
use Rattle.vocab.specs.Study.{Question}
use Rattle.verdicts.specs.Laws.{IsReportable}
use Rattle.sharp_verdicts.specs.Right.{Pointed, IsSharpRight}
use Rattle.sharp_text.specs.Conditions.{has_sharp_text}

-- each right sharp verdict has a text: all that it names is in range
abbrev pub RightSharpVerdictsHaveTexts : Type 0
RightSharpVerdictsHaveTexts = (study : Question) → IsReportable study → (v : Pointed) → IsSharpRight study v → IsTrue (has_sharp_text study v)
