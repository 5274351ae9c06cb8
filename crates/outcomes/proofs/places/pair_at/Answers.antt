use Rattle.std.proofs.Common.{arith}
use Rattle.meaning.proofs.PairLaws.{pair_rises}
use Rattle.outcomes.proofs.PlaceTables.{pairs_few, first_entry, second_entry}
use Rattle.outcomes.proofs.places.pair_at.Goals as goal

pub overflow_add-k : goal.overflow_add-k
overflow_add-k c = omega (arith, c.requires, pairs_few c.args.alternatives.number c.args.alternatives.few)

pub overflow_sub-result : goal.overflow_sub-result
overflow_sub-result c = (first_entry c.args.alternatives.number c.args.place c.pair_count.result c.args.alternatives.few c.requires c.pair_count.ensures.value).0

pub overflow_sub-result-2 : goal.overflow_sub-result-2
overflow_sub-result-2 c = (second_entry c.args.alternatives.number c.args.place c.pair_count.result c.args.alternatives.few c.requires c.pair_count.ensures.value).0

pub returns-clause-first : goal.returns-clause-first
returns-clause-first c = (first_entry c.args.alternatives.number c.args.place c.pair_count.result c.args.alternatives.few c.requires c.pair_count.ensures.value).1

pub returns-clause-second : goal.returns-clause-second
returns-clause-second c = (second_entry c.args.alternatives.number c.args.place c.pair_count.result c.args.alternatives.few c.requires c.pair_count.ensures.value).1

pub returns-clause-rises : goal.returns-clause-rises
returns-clause-rises c = omega (arith, returns-clause-first c, returns-clause-second c, (pair_rises c.args.alternatives.number c.args.place c.requires).0)

pub returns-clause-below : goal.returns-clause-below
returns-clause-below c = omega (arith, returns-clause-second c, (pair_rises c.args.alternatives.number c.args.place c.requires).1)
