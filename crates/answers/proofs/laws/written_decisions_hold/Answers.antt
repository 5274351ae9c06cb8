use Rattle.answers.proofs.DeviceLaws.{decisions_hold}
use Rattle.answers.proofs.laws.written_decisions_hold.Goals as goal

pub returns : goal.returns
returns c = decisions_hold
