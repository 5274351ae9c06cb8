use Rattle.profiles.proofs.TableLemmas.{few_ballots}
use Rattle.profiles.proofs.space.Space.ballots.Goals as goal

pub returns-clause-few : goal.returns-clause-few
returns-clause-few c = rw c.self.invariant.counted (few_ballots c.self.inside.size c.self.invariant.valid)
