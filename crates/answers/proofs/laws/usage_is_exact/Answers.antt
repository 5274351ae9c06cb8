use Rattle.answers.proofs.DeviceLaws.{usage_exact}
use Rattle.answers.proofs.laws.usage_is_exact.Goals as goal

pub returns : goal.returns
returns c = usage_exact
