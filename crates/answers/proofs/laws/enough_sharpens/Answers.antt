use Rattle.answers.proofs.SharpenLaws.{enough_sharpened}
use Rattle.answers.proofs.laws.enough_sharpens.Goals as goal

pub returns : goal.returns
returns c = enough_sharpened
