use Rattle.meaning.proofs.BallotLaws.{are_ballots}
use Rattle.meaning.proofs.laws.ballots_are_rankings.Goals as goal

pub returns : goal.returns
returns c = are_ballots
