use Rattle.answers.proofs.AdoptLaws.{enough_adopted}
use Rattle.answers.proofs.laws.enough_adopts.Goals as goal

pub returns : goal.returns
returns c = enough_adopted
