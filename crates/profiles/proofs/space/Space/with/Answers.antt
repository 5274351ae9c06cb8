use Rattle.meaning.proofs.RangeLaws.{ballot_is_cast, with_below}
use Rattle.profiles.proofs.DigitPlaces.{below_product}
use Rattle.profiles.proofs.space.Space.with.Goals as goal

pub replaced-requires-clause-listed : goal.replaced-requires-clause-listed
replaced-requires-clause-listed c = below_product c.args.self.now c.args.p c.requires.profile

pub replaced-requires-clause-new : goal.replaced-requires-clause-new
replaced-requires-clause-new c = ballot_is_cast c.args.self.now c.args.b c.requires.ballot

pub returns-clause-in_range : goal.returns-clause-in_range
returns-clause-in_range c = rw c.replaced.ensures.value (with_below c.args.self.now c.args.p c.args.i c.args.b c.requires.profile c.requires.ballot)
