use Rattle.choice_sets.proofs.FoundLaws.{are_found}
use Rattle.choice_sets.proofs.laws.gains_are_found.Goals as goal

pub returns : goal.returns
returns c = are_found
