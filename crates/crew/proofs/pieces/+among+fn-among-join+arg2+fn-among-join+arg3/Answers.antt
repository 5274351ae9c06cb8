use Rattle.std.proofs.Common.{rules, arith}
use Rattle.std.proofs.lemmas.Grind.{common_steps}
use Rattle.crew.proofs.Rights.{AreRight-append}
use Rattle.crew.proofs.pieces.+among+fn-among-join+arg2+fn-among-join+arg3.Goals as goal

pub returns-clause-right : goal.returns-clause-right
returns-clause-right g t c = rw c.in_ok-append.ensures.items (AreRight-append (g.J.Job.is_right c.args.job.now) c.args.stretch.now.from c.in-Some.first.to c.in_ok-parts.parts.items c.in_ok-rest.rest.items (grind (arith, common_steps)) (search rules) (search rules))

pub loop-piece-preserved : goal.loop-piece-preserved
loop-piece-preserved g t c = record {
  len = grind (arith, common_steps);
  right = rw c.in_ok-push.ensures.items (AreRight-append _ _ c.loop-piece.piece _ _ (grind (arith, common_steps)) c.loop-piece.invariant.right (c.in_ok-part.ensures, tt));
}
