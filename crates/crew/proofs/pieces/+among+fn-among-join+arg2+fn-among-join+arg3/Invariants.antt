use Rattle.std.proofs.Common.{◌≡◌, ◌+◌, ◌*◌, vec_len}
use Rattle.crew.specs.Right.{AreRight}
use Rattle.crew.proofs.pieces.+among+fn-among-join+arg2+fn-among-join+arg3.Given as goal

abbrev pub decreases-among : goal.decreases-among
decreases-among g l = 2 * l.stretch.now.crew.workers

abbrev pub decreases-join+arg2 : goal.decreases-join+arg2
decreases-join+arg2 g l = 2 * l.first.crew.workers + 1

abbrev pub decreases-join+arg3 : goal.decreases-join+arg3
decreases-join+arg3 g l = 2 * l.second.crew.workers + 1

abbrev pub invariant-loop-piece : goal.invariant-loop-piece
invariant-loop-piece g l = record {
  len : vec_len l.parts + l.stretch.from ≡ l.piece;
  right : AreRight (g.J.Job.is_right l.job) l.stretch.from l.parts.items;
}
