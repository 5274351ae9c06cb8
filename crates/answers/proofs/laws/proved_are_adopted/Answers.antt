use Rattle.answers.proofs.AdoptLaws.{proved_adopted}
use Rattle.answers.proofs.laws.proved_are_adopted.Goals as goal

pub returns : goal.returns
returns c = proved_adopted
