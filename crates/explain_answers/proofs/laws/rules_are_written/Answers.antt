use Rattle.explain_answers.proofs.RulesLaws.{rules_written}
use Rattle.explain_answers.proofs.laws.rules_are_written.Goals as goal

pub returns : goal.returns
returns c = rules_written
