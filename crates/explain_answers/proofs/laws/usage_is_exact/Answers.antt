use Rattle.explain_answers.proofs.CallLaws.{usage_exact}
use Rattle.explain_answers.proofs.laws.usage_is_exact.Goals as goal

pub returns : goal.returns
returns c = usage_exact
