use Rattle.explain_answers.proofs.LeftLaws.{left_unopened}
use Rattle.explain_answers.proofs.laws.refused_leaves_unopened.Goals as goal

pub returns : goal.returns
returns c = left_unopened
