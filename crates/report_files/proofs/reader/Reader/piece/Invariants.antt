use Rattle.std.proofs.Common.{◌≡◌, ℕ, ◌+◌, ◌≤◌, List, ◌++◌, length}
use Rattle.report_files.specs.Lines.{lines_given}
use Rattle.report_files.specs.Pieces.{HasTaken}
use Rattle.report_files.proofs.reader.Reader.piece.Given as goal

abbrev pub invariant-loop-line : goal.invariant-loop-line
invariant-loop-line g l = record {
  study : l.self.checker.study ≡ l.fn.self.checker.study;
  admits : l.self.checker.admits ≡ l.fn.self.checker.admits;
  room : lines_given l.self.checker + length l.rest ≤ lines_given l.fn.self.checker + length l.fn.bytes;
  read : List ℕ;
  cut : l.fn.bytes ≡ read ++ l.rest;
  taken : HasTaken l.fn.self l.self read;
}

abbrev pub decreases-loop-line : goal.decreases-loop-line
decreases-loop-line g l = length l.rest
