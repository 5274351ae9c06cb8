use Rattle.explain_answers.proofs.InstanceLaws.{instances_exact}
use Rattle.explain_answers.proofs.laws.instances_are_exact.Goals as goal

pub returns : goal.returns
returns c = instances_exact
