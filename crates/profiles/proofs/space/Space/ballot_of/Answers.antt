use Rattle.profiles.proofs.DigitPlaces.{below_product}
use Rattle.profiles.proofs.space.Space.ballot_of.Goals as goal

pub cast_in-requires-clause-listed : goal.cast_in-requires-clause-listed
cast_in-requires-clause-listed c = below_product c.args.self.now c.args.p c.requires.profile
