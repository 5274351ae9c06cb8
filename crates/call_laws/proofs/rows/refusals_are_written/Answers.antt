use Rattle.call_laws.proofs.RefusedRows.{refusals_written}
use Rattle.call_laws.proofs.rows.refusals_are_written.Goals as goal

pub returns : goal.returns
returns c = refusals_written
