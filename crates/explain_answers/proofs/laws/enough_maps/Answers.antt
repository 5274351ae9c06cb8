use Rattle.explain_answers.proofs.CallLaws.{maps_enough}
use Rattle.explain_answers.proofs.laws.enough_maps.Goals as goal

pub returns : goal.returns
returns c = maps_enough
