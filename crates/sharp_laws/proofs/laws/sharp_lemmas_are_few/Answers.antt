use Rattle.sharp_laws.proofs.FewLaws.{lemmas_few}
use Rattle.sharp_laws.proofs.laws.sharp_lemmas_are_few.Goals as goal

pub returns : goal.returns
returns c = lemmas_few
