use Rattle.vocab.specs.declared.kinds.Sort.TheVariants.{Alt, Profile}
use Rattle.vocab.specs.Tree.{term_tree}
use Rattle.worlds.proofs.ConditionLemmas.{majority_parts}
use Rattle.worlds.proofs.atoms.has_majority.Goals as goal

pub value-above-requires : goal.value-above-requires
value-above-requires c = (Alt, (majority_parts c.args.space.now (term_tree c.args.x.now) (term_tree c.args.y.now) (term_tree c.args.p.now) c.args.env.now c.requires).0)

pub value-below-requires : goal.value-below-requires
value-below-requires c = (Alt, (majority_parts c.args.space.now (term_tree c.args.x.now) (term_tree c.args.y.now) (term_tree c.args.p.now) c.args.env.now c.requires).1)

pub value-requires : goal.value-requires
value-requires c = (Profile, (majority_parts c.args.space.now (term_tree c.args.x.now) (term_tree c.args.y.now) (term_tree c.args.p.now) c.args.env.now c.requires).2)

pub majority-requires-clause-x : goal.majority-requires-clause-x
majority-requires-clause-x c = c.value-above.ensures.in_range Alt (majority_parts c.args.space.now (term_tree c.args.x.now) (term_tree c.args.y.now) (term_tree c.args.p.now) c.args.env.now c.requires).0

pub majority-requires-clause-y : goal.majority-requires-clause-y
majority-requires-clause-y c = c.value-below.ensures.in_range Alt (majority_parts c.args.space.now (term_tree c.args.x.now) (term_tree c.args.y.now) (term_tree c.args.p.now) c.args.env.now c.requires).1

pub majority-requires-clause-profile : goal.majority-requires-clause-profile
majority-requires-clause-profile c = c.value.ensures.in_range Profile (majority_parts c.args.space.now (term_tree c.args.x.now) (term_tree c.args.y.now) (term_tree c.args.p.now) c.args.env.now c.requires).2

pub returns : goal.returns
returns c = rw (← c.value-above.ensures.value, ← c.value-below.ensures.value, ← c.value.ensures.value) c.majority.ensures
