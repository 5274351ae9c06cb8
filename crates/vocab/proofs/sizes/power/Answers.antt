use Rattle.std.proofs.Common.{arith}
use Rattle.vocab.proofs.Powers.{next_power_fits, pow_positive}
use Rattle.vocab.proofs.sizes.power.Goals as goal

pub overflow_mul-count : goal.overflow_mul-count
overflow_mul-count c =
    omega (arith, next_power_fits c.args.base c.loop-i._i c.args.exponent c.loop-i.count c.requires.small c.loop-i.invariant c.loop-i-test.true c.requires.few)

pub returns-clause-some : goal.returns-clause-some
returns-clause-some c = omega (arith, c.loop-i.invariant, pow_positive c.args.base c.loop-i._i c.requires.some)
