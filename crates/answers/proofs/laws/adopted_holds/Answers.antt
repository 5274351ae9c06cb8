use Rattle.answers.proofs.AdoptLaws.{adopted_hold}
use Rattle.answers.proofs.laws.adopted_holds.Goals as goal

pub returns : goal.returns
returns c = adopted_hold
