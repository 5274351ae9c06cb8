use Rattle.texts.proofs.PourLemmas.{renamed}
use Rattle.clause_text.proofs.SpacedLemmas.{with_line_end}
use Rattle.clause_text.proofs.cnf_writing.pour_line.Goals as goal

pub returns : goal.returns
returns g c = renamed _ _ _ _ _ _ c.pour.result _ _ (with_line_end _) c.pour.ensures
