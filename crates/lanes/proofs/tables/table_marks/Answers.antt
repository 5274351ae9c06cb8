use Rattle.std.proofs.Common.{arith}
use Rattle.lanes.proofs.TableLaws.{told_by}
use Rattle.lanes.proofs.tables.table_marks.Goals as goal

pub returns-then-are_same_at : goal.returns-then-are_same_at
returns-then-are_same_at c = λ size shape f table long k l.
    told_by size shape f c.args.table.now c.place_of-place.result c.index.result.now c.args.first k c.args.env.now table (omega (arith, c.if-place-len.false)) c.index.ensures (c.serves.ensures c.if-serves.true).0 (c.serves.ensures c.if-serves.true).1 (c.serves.ensures c.if-serves.true).2
    (rw c.deref.ensures.value at (c.are_same_at.ensures c.if-are_same_at.true)) long l
