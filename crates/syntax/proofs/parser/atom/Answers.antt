use Rattle.std.proofs.Common.{ℕ, inl, inr, ◌≡◌, List, ap, ◌∙◌}
use Rattle.std.proofs.lemmas.Result.{err_from_is_err_and}
use Rattle.vocab.specs.NamedTree as tree
use Rattle.vocab.specs.NamedTree.{NamedTermTrees}
use Rattle.vocab.specs.NamedView.{named_term_tree}
use Rattle.syntax.proofs.Readings.{no_atom, no_atom_right, atom_at_equal, atom_at_pred, no_atom_term}
use Rattle.syntax.proofs.Views.{named_term_tree-Var, named_term_tree-Voter, named_term_tree-Alt, named_term_tree-Ballot, named_term_tree-Call, named_tree-Equal, named_tree-Pred}
use Rattle.syntax.proofs.parser.atom.Goals as goal

pub returns-in_err-left-clause-none : goal.returns-in_err-left-clause-none
returns-in_err-left-clause-none c =
    let p = err_from_is_err_and c.from_residual.result c.from_residual.ensures.1 in
    rw (p.1, p.2) (λ is. no_atom _ (c.in_err-left.ensures.none (cc)))

pub returns-in_err-right-clause-none : goal.returns-in_err-right-clause-none
returns-in_err-right-clause-none c =
    let p = err_from_is_err_and c.from_residual-in_err-right.result c.from_residual-in_err-right.ensures.1 in
    rw (p.1, p.2) (λ is. no_atom_right _ _ _ _ c.in_ok-left.ensures.found c.in-Some.ensures (c.in_err-right.ensures.none (cc)))

pub returns-in-Some-clause-found : goal.returns-in-Some-clause-found
returns-in-Some-clause-found c = rw (c.in_ok-boxed.ensures, named_tree-Equal) (atom_at_equal _ _ _ _ _ _ c.in_ok-left.ensures.found c.in-Some.ensures c.in_ok-right.ensures.found)

pub returns-in_ok-boxed-in-Call-clause-found : goal.returns-in_ok-boxed-in-Call-clause-found
returns-in_ok-boxed-in-Call-clause-found c = rw (c.in_ok-boxed-in-Call.ensures, named_tree-Pred) (atom_at_pred _ _ _ _ _ c.in_ok-left.ensures.found (ap named_term_tree c.in-Call.is ∙ named_term_tree-Call c.in-Call.name c.in-Call.parts) c.in_default.ensures)

pub returns-in-Var : goal.returns-in-Var
returns-in-Var c =
    let no_call : (n : List ℕ) (ts : NamedTermTrees) → named_term_tree c.in_ok-left.left ≡ tree.Call n ts → ⊥ =
    λ n ts e. elim c.in-Var.is [
      | inl v ↦ (let f = ap named_term_tree v.1 ∙ named_term_tree-Var v.0 in cc)
      | inr o ↦ elim o [
        | inl v ↦ (let f = ap named_term_tree v.1 ∙ named_term_tree-Voter v.0 in cc)
        | inr o' ↦ elim o' [
          | inl v ↦ (let f = ap named_term_tree v.1 ∙ named_term_tree-Alt v.0 in cc)
          | inr v ↦ (let f = ap named_term_tree v.1 ∙ named_term_tree-Ballot v.0 in cc)
        ]
      ]
    ] in
    record { found = tt; none = λ _. no_atom_term _ _ _ c.in_ok-left.ensures.found no_call c.in_default.ensures; shorter = tt }
