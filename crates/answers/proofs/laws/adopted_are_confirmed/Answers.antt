use Rattle.answers.proofs.AdoptLaws.{adopted_confirmed}
use Rattle.answers.proofs.laws.adopted_are_confirmed.Goals as goal

pub returns : goal.returns
returns c = adopted_confirmed
