use Rattle.closing.proofs.ClosedLaws.{are_true}
use Rattle.closing.proofs.laws.closed_are_true.Goals as goal

pub returns : goal.returns
returns c = are_true
