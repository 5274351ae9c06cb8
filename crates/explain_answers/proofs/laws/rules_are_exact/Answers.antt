use Rattle.explain_answers.proofs.RulesLaws.{rules_exact}
use Rattle.explain_answers.proofs.laws.rules_are_exact.Goals as goal

pub returns : goal.returns
returns c = rules_exact
