use Rattle.vocab.specs.declared.kinds.Sort.TheVariants.{Ballot, Alt}
use Rattle.vocab.specs.Tree.{term_tree}
use Rattle.worlds.proofs.ConditionLemmas.{better_parts}
use Rattle.worlds.proofs.atoms.is_better.Goals as goal

pub value-ballot-requires : goal.value-ballot-requires
value-ballot-requires c = (Ballot, (better_parts c.args.space.now (term_tree c.args.b.now) (term_tree c.args.x.now) (term_tree c.args.y.now) c.args.env.now c.requires).0)

pub value-above-requires : goal.value-above-requires
value-above-requires c = (Alt, (better_parts c.args.space.now (term_tree c.args.b.now) (term_tree c.args.x.now) (term_tree c.args.y.now) c.args.env.now c.requires).1)

pub value-requires : goal.value-requires
value-requires c = (Alt, (better_parts c.args.space.now (term_tree c.args.b.now) (term_tree c.args.x.now) (term_tree c.args.y.now) c.args.env.now c.requires).2)

pub better-requires-clause-ballot : goal.better-requires-clause-ballot
better-requires-clause-ballot c = c.value-ballot.ensures.in_range Ballot (better_parts c.args.space.now (term_tree c.args.b.now) (term_tree c.args.x.now) (term_tree c.args.y.now) c.args.env.now c.requires).0

pub better-requires-clause-x : goal.better-requires-clause-x
better-requires-clause-x c = c.value-above.ensures.in_range Alt (better_parts c.args.space.now (term_tree c.args.b.now) (term_tree c.args.x.now) (term_tree c.args.y.now) c.args.env.now c.requires).1

pub better-requires-clause-y : goal.better-requires-clause-y
better-requires-clause-y c = c.value.ensures.in_range Alt (better_parts c.args.space.now (term_tree c.args.b.now) (term_tree c.args.x.now) (term_tree c.args.y.now) c.args.env.now c.requires).2
