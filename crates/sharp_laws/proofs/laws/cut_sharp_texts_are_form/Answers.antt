use Rattle.sharp_laws.proofs.AnswerLaws.{cut_is_form}
use Rattle.sharp_laws.proofs.laws.cut_sharp_texts_are_form.Goals as goal

pub returns : goal.returns
returns c = cut_is_form
