use Rattle.vocab.specs.declared.kinds.Sort.TheVariants.{Voter, Ballot, Profile}
use Rattle.vocab.specs.Tree.{term_tree}
use Rattle.worlds.proofs.ConditionLemmas.{casts_parts}
use Rattle.worlds.proofs.atoms.casts.Goals as goal

pub value-voter-requires : goal.value-voter-requires
value-voter-requires c = (Voter, (casts_parts c.args.space.now (term_tree c.args.i.now) (term_tree c.args.b.now) (term_tree c.args.p.now) c.args.env.now c.requires).0)

pub value-ballot-requires : goal.value-ballot-requires
value-ballot-requires c = (Ballot, (casts_parts c.args.space.now (term_tree c.args.i.now) (term_tree c.args.b.now) (term_tree c.args.p.now) c.args.env.now c.requires).1)

pub value-requires : goal.value-requires
value-requires c = (Profile, (casts_parts c.args.space.now (term_tree c.args.i.now) (term_tree c.args.b.now) (term_tree c.args.p.now) c.args.env.now c.requires).2)

pub casts-requires-clause-voter : goal.casts-requires-clause-voter
casts-requires-clause-voter c = c.value-voter.ensures.in_range Voter (casts_parts c.args.space.now (term_tree c.args.i.now) (term_tree c.args.b.now) (term_tree c.args.p.now) c.args.env.now c.requires).0

pub casts-requires-clause-ballot : goal.casts-requires-clause-ballot
casts-requires-clause-ballot c = c.value-ballot.ensures.in_range Ballot (casts_parts c.args.space.now (term_tree c.args.i.now) (term_tree c.args.b.now) (term_tree c.args.p.now) c.args.env.now c.requires).1

pub casts-requires-clause-profile : goal.casts-requires-clause-profile
casts-requires-clause-profile c = c.value.ensures.in_range Profile (casts_parts c.args.space.now (term_tree c.args.i.now) (term_tree c.args.b.now) (term_tree c.args.p.now) c.args.env.now c.requires).2
