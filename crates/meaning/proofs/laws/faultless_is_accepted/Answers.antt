use Rattle.meaning.proofs.StoryFaultLaws.{faultless}
use Rattle.meaning.proofs.laws.faultless_is_accepted.Goals as goal

pub returns : goal.returns
returns c = faultless
