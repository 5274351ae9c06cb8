use Rattle.std.proofs.Common.{arith}
use Rattle.meaning.proofs.PairLaws.{pair_found}
use Rattle.outcomes.proofs.PlaceTables.{place_from}
use Rattle.outcomes.proofs.places.place_of.Goals as goal

pub overflow_sub-result : goal.overflow_sub-result
overflow_sub-result c = omega (arith, (place_from c.args.alternatives.number c.args.x c.args.y c.args.alternatives.few c.requires.rises c.requires.below).0, c.from.ensures, c.pair_count.ensures.value)

pub returns-clause-value : goal.returns-clause-value
returns-clause-value c = omega (arith, (place_from c.args.alternatives.number c.args.x c.args.y c.args.alternatives.few c.requires.rises c.requires.below).1, c.from.ensures, c.pair_count.ensures.value)

pub returns-clause-within : goal.returns-clause-within
returns-clause-within c = omega (arith, returns-clause-value c, (pair_found c.args.alternatives.number c.args.x c.args.y c.requires.rises c.requires.below).0)
