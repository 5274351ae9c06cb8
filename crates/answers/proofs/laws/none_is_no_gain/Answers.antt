use Rattle.answers.proofs.GainRows.{none_no_gain}
use Rattle.answers.proofs.laws.none_is_no_gain.Goals as goal

pub returns : goal.returns
returns c = none_no_gain
