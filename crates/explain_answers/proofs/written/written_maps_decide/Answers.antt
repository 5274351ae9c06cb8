use Rattle.explain_answers.proofs.WrittenLaws.{maps_decide}
use Rattle.explain_answers.proofs.written.written_maps_decide.Goals as goal

pub returns : goal.returns
returns c = maps_decide
