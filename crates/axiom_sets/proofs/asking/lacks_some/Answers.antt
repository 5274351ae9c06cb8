use Rattle.std.proofs.Common.{◌<◌, arith, get_or}
use Rattle.axiom_sets.proofs.AskLaws.{place_at}
use Rattle.axiom_sets.proofs.asking.lacks_some.Goals as goal

pub overflow_add-place : goal.overflow_add-place
overflow_add-place c = let lt : get_or c.args.set.now c.loop-place.place-index 0 < c.args.count = place_at c.args.count c.args.set.now c.loop-place.place-index 0 c.requires.set c.loop-place-test.true in omega (arith, lt, c.requires.few)

pub new-requires-clause-high : goal.new-requires-clause-high
new-requires-clause-high c = let lt : get_or c.args.set.now c.loop-place.place-index 0 < c.args.count = place_at c.args.count c.args.set.now c.loop-place.place-index 0 c.requires.set c.loop-place-test.true in omega (arith, lt, c.requires.few)
