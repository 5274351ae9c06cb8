use Rattle.sorts.proofs.Answering.{has_shape}
use Rattle.sorts.proofs.laws.sentences_are_sorted.Goals as goal

pub returns : goal.returns
returns c = has_shape
