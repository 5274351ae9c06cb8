use Rattle.meaning.proofs.RangeLaws.{voters_swapped_below}
use Rattle.profiles.proofs.DigitChanges.{second_ballot, swapped_voters}
use Rattle.profiles.proofs.DigitPlaces.{below_product}
use Rattle.profiles.proofs.space.Space.swap_voters.Goals as goal

pub replaced-half-requires-clause-listed : goal.replaced-half-requires-clause-listed
replaced-half-requires-clause-listed c = below_product c.args.self.now c.args.p c.requires.profile

pub replaced-requires-clause-old : goal.replaced-requires-clause-old
replaced-requires-clause-old c =
    rw (c.replaced-half.ensures.value, c.ballot_of-second.ensures.value)
    (second_ballot c.args.self.now c.args.p c.args.i c.args.j (below_product c.args.self.now c.args.p c.requires.profile) c.requires.i (rw (c.ballot_of-second.ensures.value) at c.ballot_of-second.ensures.in_range))

pub returns-clause-value : goal.returns-clause-value
returns-clause-value c =
    rw (c.replaced.ensures.value, c.replaced-half.ensures.value, c.ballot_of-second.ensures.value, c.ballot_of-first.ensures.value)
    (swapped_voters c.args.self.now c.args.p c.args.i c.args.j (below_product c.args.self.now c.args.p c.requires.profile) c.requires.i c.requires.j (rw (c.ballot_of-second.ensures.value) at c.ballot_of-second.ensures.in_range))

pub returns-clause-in_range : goal.returns-clause-in_range
returns-clause-in_range c =
    rw (
      c.replaced.ensures.value,
      c.replaced-half.ensures.value,
      c.ballot_of-second.ensures.value,
      c.ballot_of-first.ensures.value,
      swapped_voters c.args.self.now c.args.p c.args.i c.args.j (below_product c.args.self.now c.args.p c.requires.profile) c.requires.i c.requires.j (rw (c.ballot_of-second.ensures.value) at c.ballot_of-second.ensures.in_range),
    )
    (voters_swapped_below c.args.self.now c.args.p c.args.i c.args.j c.requires.profile c.requires.i c.requires.j)
