use Rattle.meaning.proofs.ClauseLaws.{clauses_of_equivalence}
use Rattle.meaning.proofs.laws.clauses_of_iff.Goals as goal

pub returns : goal.returns
returns c = clauses_of_equivalence
