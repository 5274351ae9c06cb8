use Rattle.instance_stories.proofs.NamedLaws.{named_accepted}
use Rattle.instance_stories.proofs.laws.named_stories_are_accepted.Goals as goal

pub returns : goal.returns
returns c = named_accepted
