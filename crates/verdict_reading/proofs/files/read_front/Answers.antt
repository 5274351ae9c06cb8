use Rattle.std.proofs.Common.{sym, subst, ℕ, List, false}
use Rattle.report_files.proofs.FileLemmas.{consumes_too_many}
use Rattle.verdict_reading.specs.Readings.{IsFileFront}
use Rattle.verdict_reading.proofs.files.read_front.Goals as goal

pub returns-then-count-room-clause-read : goal.returns-then-count-room-clause-read
returns-then-count-room-clause-read g c =
    let inv = c.loop-bytes.invariant in
    let name = c.args.name.now in
    let before = g.S.Shelf.left c.args.shelf.now name in
    let next = g.S.Shelf.left c.read.new.self name in
    subst (λ (bytes : List ℕ). IsFileFront false before next bytes) (sym c.in_ok-append.ensures.ok)
    (consumes_too_many before (g.S.Shelf.left c.loop-bytes.shelf name) next c.loop-bytes.bytes c.read.new.into c.in_ok-count.count c.loop-bytes.room c.if-count-room.true c.in_ok-count.ensures.bound.0 inv.read.count inv.read.consumed c.in_ok-count.ensures.bytes.0)
