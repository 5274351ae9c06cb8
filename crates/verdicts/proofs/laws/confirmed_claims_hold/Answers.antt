use Rattle.verdicts.proofs.ClaimLaws.{claims_hold}
use Rattle.verdicts.proofs.laws.confirmed_claims_hold.Goals as goal

pub returns : goal.returns
returns c = claims_hold
