use Rattle.vocab.specs.Tree.{tree_of}
use Rattle.worlds.proofs.ConditionLemmas.{evaluable}
use Rattle.worlds.proofs.tarski.truth.Goals as goal

pub is_true-requires-clause-fits : goal.is_true-requires-clause-fits
is_true-requires-clause-fits g c κs within = evaluable (g.K.OutcomeKind.size c.args.kind.now) (tree_of c.args.formula.now) c.args.env.now c.requires.fits
