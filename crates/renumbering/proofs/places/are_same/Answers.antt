use Rattle.std.proofs.Common.{arith}
use Rattle.std.proofs.lemmas.List.{ext_get_or}
use Rattle.renumbering.proofs.PlaceLemmas.{no_lit}
use Rattle.renumbering.proofs.places.are_same.Goals as goal

pub returns-clause-same : goal.returns-clause-same
returns-clause-same c = λ _. ext_get_or no_lit c.args.left.now c.args.right.now (omega arith) (λ i lt. c.loop-i.invariant i (omega arith))
