use Rattle.explain_answers.proofs.LookLaws.{looks_exact}
use Rattle.explain_answers.proofs.laws.looks_are_exact.Goals as goal

pub returns : goal.returns
returns c = looks_exact
