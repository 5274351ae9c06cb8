use Rattle.std.proofs.Common.{arith}
use Rattle.vocab.specs.Limits.{bases_of}
use Rattle.vocab.specs.Size.{sort_count}
use Rattle.vocab.specs.Tree.{tree_of}
use Rattle.lanes.proofs.PlaceLaws.{place_step}
use Rattle.lanes.proofs.shapes.+place_in.Goals as goal

pub returns-in-All : goal.returns-in-All
returns-in-All t c =
    let size = c.args.space.now in
    rw c.in-All.is (rw c.place_in.ensures (
    rw c.deref-in-All.ensures (place_step c.args.outer (sort_count size c.in-All.field-0) (bases_of size (tree_of c.in-All.inner.value)) c.args.number c.instance_count-block.result (omega (arith, c.if-outer-eq0.false))
    (rw c.deref.ensures at c.instance_count-block.ensures) (rw c.in-All.is at c.requires.few) (rw c.in-All.is at c.requires.within))))
