use Rattle.sharp_laws.proofs.AnswerLaws.{text_short}
use Rattle.sharp_laws.proofs.laws.sharp_lines_are_short.Goals as goal

pub returns : goal.returns
returns c = text_short
