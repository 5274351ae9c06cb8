use Rattle.std.proofs.Common.{arith}
use Rattle.std.proofs.lemmas.Nat.{one_shl}
use Rattle.choice_sets.proofs.ElementLemmas.{few_sets}
use Rattle.choice_sets.proofs.elements.set_count.Goals as goal

pub returns-clause-few : goal.returns-clause-few
returns-clause-few c = omega (arith, one_shl c.args.alternatives.number 32 (omega (arith, c.args.alternatives.few)), few_sets c.args.alternatives.number c.args.alternatives.few)
