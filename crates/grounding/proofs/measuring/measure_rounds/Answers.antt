use Rattle.std.proofs.Common.{arith}
use Rattle.grounding.proofs.WideLemmas.{narrow_beyond, wide_beyond}
use Rattle.grounding.proofs.measuring.measure_rounds.Goals as goal

pub overflow_add-from : goal.overflow_add-from
overflow_add-from g c = omega (arith, c.args.planned.now.counted, c.args.planned.now.few)

pub returns-in-Some : goal.returns-in-Some
returns-in-Some g c =
    let planned = c.args.planned.now in
    wide_beyond (g.K.OutcomeKind.size planned.kind.now) planned.named.now.sentence c.loop-from.from c.min-to.result planned.count c.in-Some.wide (omega arith) c.loop-from.invariant.narrow
    (rw c.in-Some.is at c.in_ok-wide.ensures)

pub loop-from-preserved : goal.loop-from-preserved
loop-from-preserved g c =
    let planned = c.args.planned.now in
    record {
      within = omega arith;
      narrow = narrow_beyond (g.K.OutcomeKind.size planned.kind.now) planned.named.now.sentence c.loop-from.from c.min-to.result c.loop-from.invariant.narrow (rw c.in_default.is at c.in_ok-wide.ensures);
    }

pub returns : goal.returns
returns g c = λ k low high. c.loop-from.invariant.narrow k low (omega (arith, high, c.loop-from-test.false))
