use Rattle.samples.proofs.Participation.{samples_lack}
use Rattle.samples.proofs.laws.samples_lack_participation.Goals as goal

pub returns : goal.returns
returns c = samples_lack
