use Rattle.explain_answers.proofs.WrittenLaws.{maps_enough_written}
use Rattle.explain_answers.proofs.written.enough_maps_are_written.Goals as goal

pub returns : goal.returns
returns c = maps_enough_written
