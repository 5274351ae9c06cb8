use Rattle.instance_laws.proofs.BodyLaws.{bodies_say}
use Rattle.instance_laws.proofs.laws.bodies_say_instances.Goals as goal

pub returns : goal.returns
returns c = bodies_say
