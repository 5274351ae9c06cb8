use Rattle.explain_answers.proofs.WrittenLaws.{rules_enough}
use Rattle.explain_answers.proofs.written.enough_rules_are_written.Goals as goal

pub returns : goal.returns
returns c = rules_enough
