use Rattle.std.proofs.Common.{arith}
use Rattle.instance_totals.specs.Bounds.{HasRoomFor}
use Rattle.instance_totals.proofs.TotalLemmas.{room_more}
use Rattle.instance_totals.proofs.bounds.are_bounded.Goals as goal

pub loop-place-preserved : goal.loop-place-preserved
loop-place-preserved g c =
    let study = c.args.setting.now.study.now in
    let place = c.loop-place.place in
    let room : HasRoomFor study place c.loop-place.most c.in-Some.after = rw c.in-Some.is at c.with_axiom.ensures in
    let more = room_more study place c.loop-place.most c.in-Some.after room c.loop-place.invariant.clauses c.loop-place.invariant.literals in
    record { within = omega (arith, c.loop-place-test.true); few = room.few; clauses = more.0; literals = more.1 }
