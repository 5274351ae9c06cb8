use Rattle.std.proofs.Common.{◌-◌, arith}
use Rattle.premises.proofs.HomeLemmas.{none_placed, placed_more}
use Rattle.premises.proofs.homes.found.Goals as goal

pub loop-place-init : goal.loop-place-init
loop-place-init c = (omega arith, rw c.in_ok-homes.ensures (none_placed c.args.uses.now))

pub loop-place-preserved : goal.loop-place-preserved
loop-place-preserved c = (
  omega (arith, c.loop-place.invariant.0),
  placed_more c.args.uses.now c.loop-place.homes.items (c.loop-place.place - 1) c.loop-place.place (omega (arith, c.loop-place-test.true)) c.loop-place.invariant.1 c.home_for-home.result _
      (omega (arith, c.loop-place.invariant.0, c.loop-place-test.true)) (rw c.as_slice.ensures.value at c.home_for-home.ensures),
)
