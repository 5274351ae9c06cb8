use Rattle.verdicts.proofs.ClaimLaws.{within_limit}
use Rattle.verdicts.proofs.laws.confirmed_within_limit.Goals as goal

pub returns : goal.returns
returns c = within_limit
