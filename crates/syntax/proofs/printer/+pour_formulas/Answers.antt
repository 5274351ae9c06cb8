use Rattle.std.proofs.Common.{[], ◌∷◌, codes}
use Rattle.syntax.proofs.Pouring.{cut, goes_on}
use Rattle.vocab.specs.NamedView.{named_tree}
use Rattle.syntax.specs.Canonical.{canonical_text}
use Rattle.syntax.proofs.printer.+pour_formulas.Goals as goal

pub pour_negation-returns-in_err-put : goal.pour_negation-returns-in_err-put
pour_negation-returns-in_err-put g t c = cut c.from_residual.result (canonical_text (named_tree c.args.inner.now) ∷ []) c.from_residual.ensures.0 c.in_err-put.ensures

pub pour_negation-returns : goal.pour_negation-returns
pour_negation-returns g t c = goes_on c.in_ok-put.ensures c.pour_formula.ensures

pub pour_quantified-returns-in_err-pour_binder : goal.pour_quantified-returns-in_err-pour_binder
pour_quantified-returns-in_err-pour_binder g t c = cut c.from_residual.result (canonical_text (named_tree c.args.inner.now) ∷ []) c.from_residual.ensures.0 c.in_err-pour_binder.ensures

pub pour_quantified-returns : goal.pour_quantified-returns
pour_quantified-returns g t c = goes_on c.in_ok-pour_binder.ensures c.pour_formula.ensures

pub pour_group-returns-in_err-put : goal.pour_group-returns-in_err-put
pour_group-returns-in_err-put g t c =
    cut c.from_residual.result (canonical_text (named_tree c.args.left.now) ∷ c.args.joint.now ∷ canonical_text (named_tree c.args.right.now) ∷ codes ")" ∷ []) c.from_residual.ensures.0 c.in_err-put.ensures

pub pour_group-returns-in_err-pour_formula : goal.pour_group-returns-in_err-pour_formula
pour_group-returns-in_err-pour_formula g t c =
    cut c.from_residual-in_err-pour_formula.result (c.args.joint.now ∷ canonical_text (named_tree c.args.right.now) ∷ codes ")" ∷ []) c.from_residual-in_err-pour_formula.ensures.0
    (goes_on c.in_ok-put.ensures c.in_err-pour_formula.ensures)

pub pour_group-returns-in_err-put-2 : goal.pour_group-returns-in_err-put-2
pour_group-returns-in_err-put-2 g t c =
    cut c.from_residual-in_err-put-2.result (canonical_text (named_tree c.args.right.now) ∷ codes ")" ∷ []) c.from_residual-in_err-put-2.ensures.0
    (goes_on (goes_on c.in_ok-put.ensures c.in_ok-pour_formula.ensures) c.in_err-put-2.ensures)

pub pour_group-returns-in_err-pour_formula-2 : goal.pour_group-returns-in_err-pour_formula-2
pour_group-returns-in_err-pour_formula-2 g t c =
    cut c.from_residual-in_err-pour_formula-2.result (codes ")" ∷ []) c.from_residual-in_err-pour_formula-2.ensures.0
    (goes_on (goes_on (goes_on c.in_ok-put.ensures c.in_ok-pour_formula.ensures) c.in_ok-put-2.ensures) c.in_err-pour_formula-2.ensures)

pub pour_group-returns : goal.pour_group-returns
pour_group-returns g t c = goes_on (goes_on (goes_on (goes_on c.in_ok-put.ensures c.in_ok-pour_formula.ensures) c.in_ok-put-2.ensures) c.in_ok-pour_formula-2.ensures) c.put-3.ensures
