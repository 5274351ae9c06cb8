use Rattle.closing.proofs.ClosedLaws.{are_written}
use Rattle.closing.proofs.laws.closed_are_written.Goals as goal

pub returns : goal.returns
returns c = are_written
