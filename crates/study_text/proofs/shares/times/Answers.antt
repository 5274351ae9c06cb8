use Rattle.std.proofs.Common.{arith}
use Rattle.study_text.proofs.CountLemmas.{product_fits}
use Rattle.study_text.proofs.shares.times.Goals as goal

pub overflow_mul-result : goal.overflow_mul-result
overflow_mul-result c =
    let fits = product_fits c.args.count c.args.most (omega (arith, c.ranges.count.fits)) c.requires in
    rw (c.from.ensures, c.from-2.ensures) (omega (arith, fits))
