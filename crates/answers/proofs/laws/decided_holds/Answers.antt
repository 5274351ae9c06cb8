use Rattle.answers.proofs.DecidedLaws.{decided_hold}
use Rattle.answers.proofs.laws.decided_holds.Goals as goal

pub returns : goal.returns
returns c = decided_hold
