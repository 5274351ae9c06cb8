use Rattle.verdicts.proofs.ClaimLaws.{right_claims}
use Rattle.verdicts.proofs.laws.right_claims_hold.Goals as goal

pub returns : goal.returns
returns c = right_claims
