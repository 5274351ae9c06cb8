use Rattle.instance_grounds.proofs.GroundLaws.{clauses_fit}
use Rattle.instance_grounds.proofs.laws.derived_clauses_fit.Goals as goal

pub returns : goal.returns
returns c = clauses_fit
