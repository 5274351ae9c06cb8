use Rattle.verdicts.proofs.FewLaws.{lemmas_few}
use Rattle.verdicts.proofs.laws.lemmas_are_few.Goals as goal

pub returns : goal.returns
returns c = lemmas_few
