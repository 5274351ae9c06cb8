use Rattle.std.proofs.Common.{arith}
use Rattle.std.proofs.lemmas.List.{ext_get_or}
use Rattle.simpler_proofs.proofs.ordering.are_equal.Goals as goal

pub returns : goal.returns
returns c = λ _. ext_get_or 0 c.args.left.now c.args.right.now (omega arith) (λ i lt. c.loop-i.invariant i (omega arith))
