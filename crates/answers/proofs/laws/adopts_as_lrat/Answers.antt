use Rattle.answers.proofs.AdoptLaws.{adopted_as_lrat}
use Rattle.answers.proofs.laws.adopts_as_lrat.Goals as goal

pub returns : goal.returns
returns c = adopted_as_lrat
