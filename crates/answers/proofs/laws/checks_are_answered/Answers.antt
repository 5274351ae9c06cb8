use Rattle.answers.proofs.DeviceLaws.{checks_answered}
use Rattle.answers.proofs.laws.checks_are_answered.Goals as goal

pub returns : goal.returns
returns c = checks_answered
