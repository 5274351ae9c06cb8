use Rattle.instance_grounds.proofs.StandLaws.{clauses_stand}
use Rattle.instance_grounds.proofs.laws.instance_clauses_stand.Goals as goal

pub returns : goal.returns
returns c = clauses_stand
