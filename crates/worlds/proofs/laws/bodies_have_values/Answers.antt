use Rattle.worlds.proofs.BodyLemmas.{bodies}
use Rattle.worlds.proofs.laws.bodies_have_values.Goals as goal

pub returns : goal.returns
returns c = bodies
