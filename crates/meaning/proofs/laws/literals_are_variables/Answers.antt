use Rattle.meaning.proofs.VariableLaws.{are_variables}
use Rattle.meaning.proofs.laws.literals_are_variables.Goals as goal

pub returns : goal.returns
returns c = are_variables
