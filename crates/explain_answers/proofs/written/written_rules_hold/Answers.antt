use Rattle.explain_answers.proofs.WrittenLaws.{rules_hold}
use Rattle.explain_answers.proofs.written.written_rules_hold.Goals as goal

pub returns : goal.returns
returns c = rules_hold
