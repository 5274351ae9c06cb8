use Rattle.vocab.specs.Tree.{term_tree}
use Rattle.worlds.proofs.ConditionLemmas.{equal_parts}
use Rattle.worlds.proofs.atoms.are_equal.Goals as goal

pub value-requires : goal.value-requires
value-requires c = (equal_parts c.args.space.now (term_tree c.args.s.now) (term_tree c.args.t.now) c.args.env.now c.requires).0

pub value-requires-2 : goal.value-requires-2
value-requires-2 c = (equal_parts c.args.space.now (term_tree c.args.s.now) (term_tree c.args.t.now) c.args.env.now c.requires).1
