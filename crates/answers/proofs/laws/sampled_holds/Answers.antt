use Rattle.answers.proofs.DecidedLaws.{sampled_hold}
use Rattle.answers.proofs.laws.sampled_holds.Goals as goal

pub returns : goal.returns
returns c = sampled_hold
