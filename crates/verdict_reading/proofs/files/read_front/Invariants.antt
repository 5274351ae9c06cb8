use Rattle.std.proofs.Common.{◌≡◌, length}
use Rattle.report_files.proofs.FileLemmas.{HasReadSoFar}
use Rattle.verdict_reading.proofs.files.read_front.Given as goal

abbrev pub invariant-loop-bytes : goal.invariant-loop-bytes
invariant-loop-bytes g l = record {
  read : HasReadSoFar l.name (g.S.Shelf.left l.initial.shelf) (g.S.Shelf.left l.shelf) (g.S.Shelf.files l.initial.shelf) (g.S.Shelf.files l.shelf) (g.S.Shelf.faults l.initial.shelf) (g.S.Shelf.faults l.shelf) l.room l.bytes;
  chunk : length l.chunk ≡ 65536;
}

abbrev pub decreases-loop-bytes : goal.decreases-loop-bytes
decreases-loop-bytes g l = l.room
