use Rattle.call_laws.proofs.OpenRows.{open_spent}
use Rattle.call_laws.proofs.rows.open_calls_have_spent.Goals as goal

pub returns : goal.returns
returns c = open_spent
