use Rattle.std.proofs.Common.{arith}
use Rattle.clause_form.proofs.BoundLaws.{some_longer, one_chained}
use Rattle.clause_form.proofs.bounds.some_of.Goals as goal

pub loop-init : goal.loop-init
loop-init c = record { some = omega arith; chained = λ ws e h. (one_chained c.args.part ws e h).1 }

pub loop-preserved : goal.loop-preserved
loop-preserved c = record {
  some = omega arith;
  chained = λ ws e h. some_longer c.args.part c.loop.some c.disjunction-some.result c.loop.counter c.loop.invariant.some c.disjunction-some.ensures c.loop.invariant.chained ws (omega (arith, e)) h;
}
