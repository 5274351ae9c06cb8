use Rattle.sharp_laws.proofs.AnswerLaws.{distinct}
use Rattle.sharp_laws.proofs.laws.sharp_texts_are_distinct.Goals as goal

pub returns : goal.returns
returns c = distinct
