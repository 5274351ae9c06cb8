use Rattle.std.proofs.Common.{arith}
use Rattle.outcomes.proofs.PlaceTables.{triples_few, triple_entries, triple_rises}
use Rattle.outcomes.proofs.places.triple_at.Goals as goal

pub overflow_add-x : goal.overflow_add-x
overflow_add-x c = omega (arith, c.requires, triples_few c.args.alternatives.number c.args.alternatives.few)

pub overflow_sub-result : goal.overflow_sub-result
overflow_sub-result c = (triple_entries c.args.alternatives.number c.args.place c.triple_count.result c.args.alternatives.few c.requires c.triple_count.ensures.value).0.0

pub overflow_sub-result-2 : goal.overflow_sub-result-2
overflow_sub-result-2 c = (triple_entries c.args.alternatives.number c.args.place c.triple_count.result c.args.alternatives.few c.requires c.triple_count.ensures.value).1.0

pub overflow_sub-result-3 : goal.overflow_sub-result-3
overflow_sub-result-3 c = (triple_entries c.args.alternatives.number c.args.place c.triple_count.result c.args.alternatives.few c.requires c.triple_count.ensures.value).2.0

pub returns-clause-first : goal.returns-clause-first
returns-clause-first c = (triple_entries c.args.alternatives.number c.args.place c.triple_count.result c.args.alternatives.few c.requires c.triple_count.ensures.value).0.1

pub returns-clause-second : goal.returns-clause-second
returns-clause-second c = (triple_entries c.args.alternatives.number c.args.place c.triple_count.result c.args.alternatives.few c.requires c.triple_count.ensures.value).1.1

pub returns-clause-third : goal.returns-clause-third
returns-clause-third c = (triple_entries c.args.alternatives.number c.args.place c.triple_count.result c.args.alternatives.few c.requires c.triple_count.ensures.value).2.1

pub returns-clause-rises : goal.returns-clause-rises
returns-clause-rises c =
    let rises = triple_rises c.args.alternatives.number c.args.place c.args.alternatives.few c.requires in
    (omega (arith, returns-clause-first c, returns-clause-second c, rises.0), omega (arith, returns-clause-second c, returns-clause-third c, rises.1))

pub returns-clause-below : goal.returns-clause-below
returns-clause-below c = omega (arith, returns-clause-third c, (triple_rises c.args.alternatives.number c.args.place c.args.alternatives.few c.requires).2)
