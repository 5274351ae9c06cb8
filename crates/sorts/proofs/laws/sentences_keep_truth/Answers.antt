use Rattle.sorts.proofs.Truths.{same_truth}
use Rattle.sorts.proofs.laws.sentences_keep_truth.Goals as goal

pub returns : goal.returns
returns c = λ size scope f none table assignment same. same_truth size table scope assignment same f none
