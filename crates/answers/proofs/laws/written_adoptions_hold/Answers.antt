use Rattle.answers.proofs.AdoptLaws.{adoptions_hold}
use Rattle.answers.proofs.laws.written_adoptions_hold.Goals as goal

pub returns : goal.returns
returns c = adoptions_hold
