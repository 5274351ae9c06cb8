use Rattle.explain_answers.proofs.PageLaws.{pages_written}
use Rattle.explain_answers.proofs.laws.pages_are_written.Goals as goal

pub returns : goal.returns
returns c = pages_written
