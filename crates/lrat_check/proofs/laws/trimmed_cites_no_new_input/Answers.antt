use Rattle.lrat_check.proofs.CitedLaws.{no_new_input}
use Rattle.lrat_check.proofs.laws.trimmed_cites_no_new_input.Goals as goal

pub returns : goal.returns
returns c = no_new_input
