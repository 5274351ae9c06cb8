use Rattle.explain_answers.proofs.CallLaws.{calls_complete}
use Rattle.explain_answers.proofs.laws.calls_are_complete.Goals as goal

pub returns : goal.returns
returns c = calls_complete
