use Rattle.std.proofs.Common.{subst}
use Rattle.vocab.specs.Size.{IsSize}
use Rattle.profiles.proofs.DigitPlaces.{weight_positive}
use Rattle.profiles.proofs.space.Space.weight.Goals as goal

pub returns-clause-some : goal.returns-clause-some
returns-clause-some c = rw (c.self.invariant.worth, c.self.view_is) (weight_positive c.args.self.now c.args.i (subst IsSize c.self.view_is c.self.invariant.valid) c.requires)
