use Rattle.vocab.specs.declared.kinds.Sort.TheVariants.{Voter, Alt, Profile}
use Rattle.vocab.specs.Tree.{term_tree}
use Rattle.worlds.proofs.ConditionLemmas.{prefers_parts}
use Rattle.worlds.proofs.atoms.prefers.Goals as goal

pub value-voter-requires : goal.value-voter-requires
value-voter-requires c = (Voter, (prefers_parts c.args.space.now (term_tree c.args.i.now) (term_tree c.args.x.now) (term_tree c.args.y.now) (term_tree c.args.p.now) c.args.env.now c.requires).0)

pub value-above-requires : goal.value-above-requires
value-above-requires c = (Alt, (prefers_parts c.args.space.now (term_tree c.args.i.now) (term_tree c.args.x.now) (term_tree c.args.y.now) (term_tree c.args.p.now) c.args.env.now c.requires).1)

pub value-below-requires : goal.value-below-requires
value-below-requires c = (Alt, (prefers_parts c.args.space.now (term_tree c.args.i.now) (term_tree c.args.x.now) (term_tree c.args.y.now) (term_tree c.args.p.now) c.args.env.now c.requires).2)

pub value-requires : goal.value-requires
value-requires c = (Profile, (prefers_parts c.args.space.now (term_tree c.args.i.now) (term_tree c.args.x.now) (term_tree c.args.y.now) (term_tree c.args.p.now) c.args.env.now c.requires).3)

pub prefers-requires-clause-voter : goal.prefers-requires-clause-voter
prefers-requires-clause-voter c = c.value-voter.ensures.in_range Voter (prefers_parts c.args.space.now (term_tree c.args.i.now) (term_tree c.args.x.now) (term_tree c.args.y.now) (term_tree c.args.p.now) c.args.env.now c.requires).0

pub prefers-requires-clause-x : goal.prefers-requires-clause-x
prefers-requires-clause-x c = c.value-above.ensures.in_range Alt (prefers_parts c.args.space.now (term_tree c.args.i.now) (term_tree c.args.x.now) (term_tree c.args.y.now) (term_tree c.args.p.now) c.args.env.now c.requires).1

pub prefers-requires-clause-y : goal.prefers-requires-clause-y
prefers-requires-clause-y c = c.value-below.ensures.in_range Alt (prefers_parts c.args.space.now (term_tree c.args.i.now) (term_tree c.args.x.now) (term_tree c.args.y.now) (term_tree c.args.p.now) c.args.env.now c.requires).2

pub prefers-requires-clause-profile : goal.prefers-requires-clause-profile
prefers-requires-clause-profile c = c.value.ensures.in_range Profile (prefers_parts c.args.space.now (term_tree c.args.i.now) (term_tree c.args.x.now) (term_tree c.args.y.now) (term_tree c.args.p.now) c.args.env.now c.requires).3
