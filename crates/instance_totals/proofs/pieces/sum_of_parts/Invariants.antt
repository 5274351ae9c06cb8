use Rattle.std.proofs.Common.{◌≡◌, min}
use Rattle.instance_totals.specs.Sums.{counts_from, piece_start}
use Rattle.instance_totals.proofs.pieces.sum_of_parts.Given as goal

-- the counts of the instances of the pieces so far
abbrev pub invariant-loop-piece : goal.invariant-loop-piece
invariant-loop-piece l = record {
  clauses : l.clauses ≡ (counts_from l.study l.place 0 (min (piece_start l.piece) l.count)).clauses;
  literals : l.literals ≡ (counts_from l.study l.place 0 (min (piece_start l.piece) l.count)).literals;
}
