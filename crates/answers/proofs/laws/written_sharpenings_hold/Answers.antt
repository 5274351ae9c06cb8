use Rattle.answers.proofs.SharpenLaws.{sharpenings_hold}
use Rattle.answers.proofs.laws.written_sharpenings_hold.Goals as goal

pub returns : goal.returns
returns c = sharpenings_hold
