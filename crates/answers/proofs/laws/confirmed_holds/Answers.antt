use Rattle.answers.proofs.DeviceLaws.{confirmed_hold}
use Rattle.answers.proofs.laws.confirmed_holds.Goals as goal

pub returns : goal.returns
returns c = confirmed_hold
