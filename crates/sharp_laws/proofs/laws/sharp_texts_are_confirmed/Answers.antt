use Rattle.sharp_laws.proofs.AnswerLaws.{texts_confirmed}
use Rattle.sharp_laws.proofs.laws.sharp_texts_are_confirmed.Goals as goal

pub returns : goal.returns
returns c = texts_confirmed
