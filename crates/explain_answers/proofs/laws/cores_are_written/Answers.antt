use Rattle.explain_answers.proofs.CoresLaws.{cores_written}
use Rattle.explain_answers.proofs.laws.cores_are_written.Goals as goal

pub returns : goal.returns
returns c = cores_written
