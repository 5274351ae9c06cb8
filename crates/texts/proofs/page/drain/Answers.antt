use Rattle.std.proofs.Common.{◌∙◌, arith}
use Rattle.texts.proofs.PageLemmas.{moved_on, grows_more, rest_length}
use Rattle.texts.proofs.page.drain.Goals as goal

pub loop-place-preserved : goal.loop-place-preserved
loop-place-preserved g c =
    let so_far = c.loop-place.invariant in
    let step = c.in-Ok.ensures in
    record {
      order = omega (arith, so_far.order);
      within = omega (arith, so_far.within, step.bound, rest_length c.loop-place.place c.args.bytes.now, c.loop-place-test.true);
      bytes_kept = moved_on _ _ _ _ c.args.bytes.now c.loop-place.place c.in-Ok.count so_far.bytes_kept step.bytes;
      grown = grows_more _ _ _ so_far.grown (_, step.bytes);
      tells = step.tells ∙ so_far.tells;
      later = omega (arith, so_far.later, step.cause.later);
    }
