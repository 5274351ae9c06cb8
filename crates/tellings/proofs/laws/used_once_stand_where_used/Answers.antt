use Rattle.tellings.proofs.NamerLemmas.{used_once}
use Rattle.tellings.proofs.laws.used_once_stand_where_used.Goals as goal

pub returns : goal.returns
returns c = used_once
