use Rattle.answers.proofs.DecidedLaws.{enough_proved}
use Rattle.answers.proofs.laws.enough_proves.Goals as goal

pub returns : goal.returns
returns c = enough_proved
