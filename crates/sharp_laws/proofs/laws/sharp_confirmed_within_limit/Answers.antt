use Rattle.sharp_laws.proofs.FaultLaws.{within_limit}
use Rattle.sharp_laws.proofs.laws.sharp_confirmed_within_limit.Goals as goal

pub returns : goal.returns
returns c = within_limit
