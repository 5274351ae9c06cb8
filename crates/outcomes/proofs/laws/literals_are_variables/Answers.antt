use Rattle.meaning.proofs.VariableLaws.{are_variables}
use Rattle.outcomes.proofs.laws.literals_are_variables.Goals as goal

pub returns : goal.returns
returns g c = are_variables (g.K.OutcomeKind.size c.args.kind.now)
