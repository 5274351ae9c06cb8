use Rattle.std.proofs.Common.{subst}
use Rattle.vocab.specs.Size.{IsSize}
use Rattle.meaning.proofs.SpaceLaws.{cast_positive}
use Rattle.profiles.proofs.DigitPlaces.{weight_positive, cast_at, cast_below}
use Rattle.profiles.proofs.space.Space.cast_in.Goals as goal

pub nonzero_div-result : goal.nonzero_div-result
nonzero_div-result c = rw (c.self.invariant.worth, c.self.view_is) (weight_positive c.args.self.now c.args.i (subst IsSize c.self.view_is c.self.invariant.valid) c.requires.voter)

pub nonzero_rem-result : goal.nonzero_rem-result
nonzero_rem-result c = rw c.self.invariant.each (cast_positive c.self.inside.size c.self.invariant.valid)

pub returns-clause-value : goal.returns-clause-value
returns-clause-value c = rw (c.self.invariant.worth, c.self.invariant.each, c.self.view_is) (cast_at c.args.self.now c.args.p c.args.i c.requires.listed c.requires.voter)

pub returns-clause-in_range : goal.returns-clause-in_range
returns-clause-in_range c =
    rw (c.self.invariant.worth, c.self.invariant.each, c.self.view_is, cast_at c.args.self.now c.args.p c.args.i c.requires.listed c.requires.voter)
    (cast_below c.args.self.now c.args.p c.args.i (subst IsSize c.self.view_is c.self.invariant.valid) c.requires.listed c.requires.voter)
