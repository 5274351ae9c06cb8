use Rattle.clause_text.proofs.RoundLemmas.{written_is_read}
use Rattle.clause_text.proofs.laws.written_clauses_are_read.Goals as goal

pub returns : goal.returns
returns c = λ head v clauses one_line few short light over. written_is_read head v clauses one_line few short light over
