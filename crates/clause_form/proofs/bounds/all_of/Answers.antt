use Rattle.std.proofs.Common.{arith}
use Rattle.clause_form.proofs.BoundLaws.{all_longer, one_chained}
use Rattle.clause_form.proofs.bounds.all_of.Goals as goal

pub loop-init : goal.loop-init
loop-init c = record { some = omega arith; chained = λ ws e h. (one_chained c.args.part ws e h).0 }

pub loop-preserved : goal.loop-preserved
loop-preserved c = record {
  some = omega arith;
  chained = λ ws e h. all_longer c.args.part c.loop.all c.conjunction-all.result c.loop.counter c.loop.invariant.some c.conjunction-all.ensures c.loop.invariant.chained ws (omega (arith, e)) h;
}
