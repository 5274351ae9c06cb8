use Rattle.sharp_text.proofs.RangeLaws.{sharp_has_text}
use Rattle.sharp_text.proofs.laws.right_sharp_verdicts_have_texts.Goals as goal

pub returns : goal.returns
returns c = sharp_has_text
