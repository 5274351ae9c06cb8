use Rattle.call_laws.proofs.LratRows.{refutations_answered}
use Rattle.call_laws.proofs.rows.refutations_are_answered.Goals as goal

pub returns : goal.returns
returns c = refutations_answered
