use Rattle.explain_answers.proofs.PageLaws.{pages_exact}
use Rattle.explain_answers.proofs.laws.pages_are_exact.Goals as goal

pub returns : goal.returns
returns c = pages_exact
