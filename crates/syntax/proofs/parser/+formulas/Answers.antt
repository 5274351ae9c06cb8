use Rattle.std.proofs.Common.{rules, refl, ◌∷◌, ap, sym, ◌∙◌}
use Rattle.std.proofs.lemmas.Result.{err_from_is_err_and}
use Rattle.syntax.specs.Grammar.{Chains}
use Rattle.syntax.proofs.Readings.{no_formula_empty, formula_at_front, no_formula_front, shorter_front, formula_at_negation, no_formula_negation, formula_at_quantified, no_formula_unbound, no_formula_quantified, formula_at_group, no_group_left, no_group_end, no_group_mark, no_group_right, chain_last, chain_more, no_chain_end, no_chain_more, formula_at_atoms}
use Rattle.syntax.proofs.parser.+formulas.Goals as goal

pub chain-returns-in-Some-clause-found : goal.chain-returns-in-Some-clause-found
chain-returns-in-Some-clause-found t c = chain_last _ _ _ _ _ c.in_ok-first.ensures.found c.in-Some.ensures

pub chain-returns-then-not-may_chain-clause-none : goal.chain-returns-then-not-may_chain-clause-none
chain-returns-then-not-may_chain-clause-none t c =
    let not_chained : Chains c.args.joint → ⊥ = λ o. (let b = c.may_chain.ensures.1 o in search rules) in
    λ _. no_chain_end _ _ _ _ c.in_ok-first.ensures.found c.in_default.ensures (λ o. absurd (not_chained o))

pub chain-returns-in_default-after-clause-none : goal.chain-returns-in_default-after-clause-none
chain-returns-in_default-after-clause-none t c =
    λ _. no_chain_end _ _ _ _ c.in_ok-first.ensures.found c.in_default.ensures (λ o l e. c.in_default-after.ensures l (e ∙ ap (λ m. m ∷ l) (sym c.mark.ensures)))

pub chain-returns-in_err-others-clause-none : goal.chain-returns-in_err-others-clause-none
chain-returns-in_err-others-clause-none t c =
    let p = err_from_is_err_and c.from_residual-in_err-others.result c.from_residual-in_err-others.ensures.1 in
    rw (p.1, p.2) (λ is. no_chain_more _ _ _ _ _ _ c.in_ok-first.ensures.found c.in-Some-after.ensures c.mark.ensures (c.in_err-others.ensures.none (cc)))

pub chain-returns-clause-found : goal.chain-returns-clause-found
chain-returns-clause-found t c =
    let chained : Chains c.args.joint = c.may_chain.ensures.0 (rw c.if-not-may_chain.false refl) in
    rw c.in_ok-join.ensures (chain_more _ _ _ _ _ _ _ _ c.in_ok-first.ensures.found chained c.in-Some-after.ensures c.mark.ensures c.in_ok-others.ensures.found)

pub formula-returns-in_default-clause-none : goal.formula-returns-in_default-clause-none
formula-returns-in_default-clause-none t c = λ _. no_formula_empty _ c.in_default.ensures

pub formula-returns-in-Quantified-clause-found : goal.formula-returns-in-Quantified-clause-found
formula-returns-in-Quantified-clause-found t c = formula_at_front c.quantified.result _ _ _ _ c.in-Some.ensures c.in-Quantified.ensures c.quantified.ensures.found

pub formula-returns-in-Quantified-clause-none : goal.formula-returns-in-Quantified-clause-none
formula-returns-in-Quantified-clause-none t c = λ is. no_formula_front _ _ _ _ c.in-Some.ensures c.in-Quantified.ensures (c.quantified.ensures.none is)

pub formula-returns-in-Quantified-clause-shorter : goal.formula-returns-in-Quantified-clause-shorter
formula-returns-in-Quantified-clause-shorter t c = shorter_front c.quantified.result _ _ _ c.in-Some.ensures c.quantified.ensures.shorter

pub formula-returns-in-Negation-clause-found : goal.formula-returns-in-Negation-clause-found
formula-returns-in-Negation-clause-found t c = formula_at_front c.negation.result _ _ _ _ c.in-Some.ensures c.in-Negation.ensures c.negation.ensures.found

pub formula-returns-in-Negation-clause-none : goal.formula-returns-in-Negation-clause-none
formula-returns-in-Negation-clause-none t c = λ is. no_formula_front _ _ _ _ c.in-Some.ensures c.in-Negation.ensures (c.negation.ensures.none is)

pub formula-returns-in-Negation-clause-shorter : goal.formula-returns-in-Negation-clause-shorter
formula-returns-in-Negation-clause-shorter t c = shorter_front c.negation.result _ _ _ c.in-Some.ensures c.negation.ensures.shorter

pub formula-returns-in-Group-clause-found : goal.formula-returns-in-Group-clause-found
formula-returns-in-Group-clause-found t c = formula_at_front c.group.result _ _ _ _ c.in-Some.ensures c.in-Group.ensures c.group.ensures.found

pub formula-returns-in-Group-clause-none : goal.formula-returns-in-Group-clause-none
formula-returns-in-Group-clause-none t c = λ is. no_formula_front _ _ _ _ c.in-Some.ensures c.in-Group.ensures (c.group.ensures.none is)

pub formula-returns-in-Group-clause-shorter : goal.formula-returns-in-Group-clause-shorter
formula-returns-in-Group-clause-shorter t c = shorter_front c.group.result _ _ _ c.in-Some.ensures c.group.ensures.shorter

pub formula-returns-in-Atom-clause-found : goal.formula-returns-in-Atom-clause-found
formula-returns-in-Atom-clause-found t c = formula_at_atoms _ _ _ _ c.in-Some.ensures c.in-Atom.ensures c.atom.ensures.found

pub quantified-returns-in_default-clause-none : goal.quantified-returns-in_default-clause-none
quantified-returns-in_default-clause-none t c = λ _. no_formula_unbound c.args.quantifier _ c.in_default.ensures

pub quantified-returns-in_err-inner-clause-none : goal.quantified-returns-in_err-inner-clause-none
quantified-returns-in_err-inner-clause-none t c =
    let p = err_from_is_err_and c.from_residual.result c.from_residual.ensures.1 in
    rw (p.1, p.2) (λ is. no_formula_quantified _ _ _ _ _ c.in-Some.ensures (c.in_err-inner.ensures.none (cc)))

pub quantified-returns-clause-found : goal.quantified-returns-clause-found
quantified-returns-clause-found t c = rw c.in_ok-quantify.ensures (formula_at_quantified _ _ _ _ _ _ _ c.in-Some.ensures c.in_ok-inner.ensures.found)

pub negation-returns-in_err-inner-clause-none : goal.negation-returns-in_err-inner-clause-none
negation-returns-in_err-inner-clause-none t c =
    let p = err_from_is_err_and c.from_residual.result c.from_residual.ensures.1 in
    rw (p.1, p.2) (λ is. no_formula_negation _ (c.in_err-inner.ensures.none (cc)))

pub negation-returns-clause-found : goal.negation-returns-clause-found
negation-returns-clause-found t c = rw c.in_ok-negated.ensures (formula_at_negation _ _ _ c.in_ok-inner.ensures.found)

pub group-returns-in_err-left-clause-none : goal.group-returns-in_err-left-clause-none
group-returns-in_err-left-clause-none t c =
    let p = err_from_is_err_and c.from_residual.result c.from_residual.ensures.1 in
    rw (p.1, p.2) (λ is. no_group_left _ (c.in_err-left.ensures.none (cc)))

pub group-returns-in_default-clause-none : goal.group-returns-in_default-clause-none
group-returns-in_default-clause-none t c = λ _. no_group_end _ _ _ c.in_ok-left.ensures.found c.in_default.ensures

pub group-returns-in_default-joint_of-clause-none : goal.group-returns-in_default-joint_of-clause-none
group-returns-in_default-joint_of-clause-none t c = λ _. no_group_mark _ _ _ _ _ c.in_ok-left.ensures.found c.in-Some.ensures c.in_default-joint_of.ensures

pub group-returns-in_err-right-clause-none : goal.group-returns-in_err-right-clause-none
group-returns-in_err-right-clause-none t c =
    let p = err_from_is_err_and c.from_residual-in_err-right.result c.from_residual-in_err-right.ensures.1 in
    rw (p.1, p.2) (λ is. no_group_right _ _ _ _ _ _ c.in_ok-left.ensures.found c.in-Some.ensures c.in-Some-joint_of.ensures (c.in_err-right.ensures.none (cc)))

pub group-returns-clause-found : goal.group-returns-clause-found
group-returns-clause-found t c = rw c.in_ok-join.ensures (formula_at_group _ _ _ _ _ _ _ _ c.in_ok-left.ensures.found c.in-Some.ensures c.in-Some-joint_of.ensures c.in_ok-right.ensures.found)
