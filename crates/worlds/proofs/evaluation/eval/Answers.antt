use Rattle.vocab.specs.Tree.{tree_of}
use Rattle.worlds.proofs.ConditionLemmas.{evaluable}
use Rattle.worlds.proofs.evaluation.eval.Goals as goal

pub eval_formula-requires : goal.eval_formula-requires
eval_formula-requires g c = record {
  fits = evaluable c.args.space.now (tree_of c.args.formula.now) c.args.env.now c.requires.fits;
  takes = c.requires.takes;
}
