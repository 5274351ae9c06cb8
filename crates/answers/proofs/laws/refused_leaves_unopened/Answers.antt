use Rattle.answers.proofs.DeviceLaws.{left_unopened}
use Rattle.answers.proofs.laws.refused_leaves_unopened.Goals as goal

pub returns : goal.returns
returns c = left_unopened
