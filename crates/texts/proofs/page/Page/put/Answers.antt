use Rattle.std.proofs.Common.{◌∙◌, arith}
use Rattle.edge.proofs.Known.{appends_take}
use Rattle.texts.proofs.PageLemmas.{grows_more, rest_length, pour_stops}
use Rattle.texts.proofs.page.Page.put.Goals as goal

pub returns-in_err-done : goal.returns-in_err-done
returns-in_err-done g c =
    let stop = c.in_err-done.ensures in
    pour_stops _ _ _ _ _ _ _ _ _ c.args.piece.now c.loop-done.done c.in_err-done.field-0.0 c.from_residual.result c.from_residual.ensures.0 c.loop-done.invariant stop.bytes stop.grown stop.tells stop.cause

pub loop-done-preserved : goal.loop-done-preserved
loop-done-preserved g c =
    let so_far = c.loop-done.invariant in
    let step = c.in_ok-done.ensures in
    record {
      within = omega (arith, so_far.within, step.bound, rest_length c.loop-done.done c.args.piece.now, c.loop-done-test.true);
      bytes = appends_take _ _ _ c.args.piece.now c.loop-done.done c.in_ok-done.field-0 so_far.bytes step.bytes;
      grown = grows_more _ _ _ so_far.grown step.grown;
      tells = step.tells ∙ so_far.tells;
      later = omega (arith, so_far.later, step.cause.later);
    }
