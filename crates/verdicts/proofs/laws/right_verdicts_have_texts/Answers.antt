use Rattle.verdicts.proofs.RightLaws.{right_has_text}
use Rattle.verdicts.proofs.laws.right_verdicts_have_texts.Goals as goal

pub returns : goal.returns
returns c = right_has_text
