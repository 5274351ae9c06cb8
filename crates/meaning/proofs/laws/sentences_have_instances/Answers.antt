use Rattle.meaning.proofs.InstanceLaws.{have_instances}
use Rattle.meaning.proofs.laws.sentences_have_instances.Goals as goal

pub returns : goal.returns
returns c = have_instances
