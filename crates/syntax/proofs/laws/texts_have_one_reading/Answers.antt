use Rattle.syntax.proofs.OneAnswer.{same_tree}
use Rattle.syntax.proofs.laws.texts_have_one_reading.Goals as goal

pub returns : goal.returns
returns c = same_tree
