use Rattle.sharp_laws.proofs.FewLaws.{lemmas_fit}
use Rattle.sharp_laws.proofs.laws.sharp_lemmas_fit.Goals as goal

pub returns : goal.returns
returns c = lemmas_fit
