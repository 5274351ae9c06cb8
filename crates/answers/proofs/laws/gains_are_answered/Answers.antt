use Rattle.answers.proofs.GainRows.{gains_answered}
use Rattle.answers.proofs.laws.gains_are_answered.Goals as goal

pub returns : goal.returns
returns c = gains_answered
