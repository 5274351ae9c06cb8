use Rattle.answers.proofs.ConfirmedLaws.{proved_confirmed}
use Rattle.answers.proofs.laws.proved_are_confirmed.Goals as goal

pub returns : goal.returns
returns c = proved_confirmed
