use Rattle.sharp_laws.proofs.ClaimLaws.{claims_hold}
use Rattle.sharp_laws.proofs.laws.sharp_claims_hold.Goals as goal

pub returns : goal.returns
returns c = claims_hold
