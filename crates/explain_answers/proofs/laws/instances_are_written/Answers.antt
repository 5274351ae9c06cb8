use Rattle.explain_answers.proofs.InstanceLaws.{instances_written}
use Rattle.explain_answers.proofs.laws.instances_are_written.Goals as goal

pub returns : goal.returns
returns c = instances_written
