use Rattle.std.proofs.Common.{sym, ap, arith}
use Rattle.vocab.specs.Tree.{tree_of}
use Rattle.report_text.proofs.WordLemmas.{next_value}
use Rattle.texts.proofs.PourLemmas.{renamed, stopped, followed}
use Rattle.report_text.proofs.words.+pour_values.Goals as goal

pub returns-in_err-pour-in-All : goal.returns-in_err-pour-in-All
returns-in_err-pour-in-All g t c =
    let next = next_value c.args.of.now.study.now c.args.of.now.space.now (tree_of c.args.formula.now) c.in-All.sort (tree_of c.in-All.inner.value) c.args.values.now c.args.level c.get.result c.args.of.now.same (ap tree_of c.in-All.is) (omega arith) c.get.ensures in
    renamed _ _ _ _ _ _ c.from_residual.result _ _ (sym next) (stopped _ _ _ _ _ _ _ _ c.in_err-pour-in-All.field-0.0 c.from_residual.result c.from_residual.ensures.0 c.in_err-pour-in-All.ensures)

pub returns-in_ok-pour-in-All : goal.returns-in_ok-pour-in-All
returns-in_ok-pour-in-All g t c =
    let next = next_value c.args.of.now.study.now c.args.of.now.space.now (tree_of c.args.formula.now) c.in-All.sort (tree_of c.in-All.inner.value) c.args.values.now c.args.level c.get.result c.args.of.now.same (ap tree_of c.in-All.is) (omega arith) c.get.ensures in
    renamed _ _ _ _ _ _ c.pour_values.result _ _ (sym next) (followed _ _ _ _ _ _ _ _ _ _ _ c.in_ok-pour-in-All.field-0 c.pour_values.result c.in_ok-pour-in-All.ensures (rw c.deref.ensures at c.pour_values.ensures))
