use Rattle.explain_answers.proofs.CoresLaws.{cores_exact}
use Rattle.explain_answers.proofs.laws.cores_are_exact.Goals as goal

pub returns : goal.returns
returns c = cores_exact
