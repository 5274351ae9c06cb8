use Rattle.answers.proofs.SharpenLaws.{sharpenings_confirmed}
use Rattle.answers.proofs.laws.written_sharpenings_are_confirmed.Goals as goal

pub returns : goal.returns
returns c = sharpenings_confirmed
