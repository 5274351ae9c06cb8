use Rattle.call_laws.proofs.QuietRows.{quiet_rows}
use Rattle.call_laws.proofs.rows.quiet_calls_have_rows.Goals as goal

pub returns : goal.returns
returns c = quiet_rows
