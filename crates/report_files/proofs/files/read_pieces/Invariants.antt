use Rattle.std.proofs.Common.{◌≡◌, ◌≤◌, List, ℕ, length}
use Rattle.report_files.specs.Lines.{lines_given}
use Rattle.report_files.specs.Pieces.{HasTaken}
use Rattle.report_files.proofs.FileLemmas.{HasReadSoFar}
use Rattle.report_files.proofs.files.read_pieces.Given as goal

abbrev pub invariant-loop-chunk : goal.invariant-loop-chunk
invariant-loop-chunk g l = record {
  study : l.reader.checker.study ≡ l.fn.reader.checker.study;
  admits : l.reader.checker.admits ≡ l.fn.reader.checker.admits;
  bytes : List ℕ;
  lines : lines_given l.reader.checker ≤ length bytes;
  read : HasReadSoFar l.name (g.S.Shelf.left l.fn.shelf) (g.S.Shelf.left l.shelf) (g.S.Shelf.files l.fn.shelf) (g.S.Shelf.files l.shelf) (g.S.Shelf.faults l.fn.shelf) (g.S.Shelf.faults l.shelf) l.room bytes;
  taken : HasTaken l.fn.reader l.reader bytes;
  chunk : length l.chunk ≡ 65536;
}

abbrev pub decreases-loop-chunk : goal.decreases-loop-chunk
decreases-loop-chunk g l = l.room
