use Rattle.std.proofs.Common.{length, arith}
use Rattle.meaning.proofs.SpaceLaws.{factorial_small}
use Rattle.profiles.specs.Weights.{rank_of}
use Rattle.profiles.proofs.TableLemmas.{rank_of-small, rank_of-step}
use Rattle.profiles.proofs.tables.rank.Goals as goal

pub overflow_mul-number : goal.overflow_mul-number
overflow_mul-number c =
    let step = rank_of-step c.loop-first.number c.lower.result c.factorial_of.result (rank_of c.args.text.now) c.in-Some.first.now c.loop-first.rest.now c.in-Some.later.now c.loop-first.invariant.number c.in-Some.ensures.cases.0 c.lower.ensures c.factorial_of.ensures in
    omega (arith, step, rank_of-small c.args.text.now, factorial_small (length c.args.text.now) c.requires)

pub overflow_add-number : goal.overflow_add-number
overflow_add-number c =
    let step = rank_of-step c.loop-first.number c.lower.result c.factorial_of.result (rank_of c.args.text.now) c.in-Some.first.now c.loop-first.rest.now c.in-Some.later.now c.loop-first.invariant.number c.in-Some.ensures.cases.0 c.lower.ensures c.factorial_of.ensures in
    omega (arith, step, rank_of-small c.args.text.now, factorial_small (length c.args.text.now) c.requires)

pub returns-clause-small : goal.returns-clause-small
returns-clause-small c = omega (arith, c.loop-first.invariant.number, rank_of-small c.args.text.now)
