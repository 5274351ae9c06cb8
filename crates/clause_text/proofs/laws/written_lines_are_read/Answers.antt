use Rattle.clause_text.proofs.LineRoundLemmas.{written_lines_are_read}
use Rattle.clause_text.proofs.laws.written_lines_are_read.Goals as goal

pub returns : goal.returns
returns c = λ variables lines within. written_lines_are_read variables lines within
