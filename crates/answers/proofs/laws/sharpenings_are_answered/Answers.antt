use Rattle.answers.proofs.SharpenRows.{sharpenings_answered}
use Rattle.answers.proofs.laws.sharpenings_are_answered.Goals as goal

pub returns : goal.returns
returns c = sharpenings_answered
