use Rattle.sharp_laws.proofs.ClaimLaws.{confirmed_hold}
use Rattle.sharp_laws.proofs.laws.confirmed_sharp_claims_hold.Goals as goal

pub returns : goal.returns
returns c = confirmed_hold
