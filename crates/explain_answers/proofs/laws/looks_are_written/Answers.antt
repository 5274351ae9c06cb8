use Rattle.explain_answers.proofs.LookLaws.{looks_written}
use Rattle.explain_answers.proofs.laws.looks_are_written.Goals as goal

pub returns : goal.returns
returns c = looks_written
