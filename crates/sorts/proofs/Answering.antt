-- What a visit of a whole sentence answers.
use Rattle.std.proofs.Common.{◌≡◌, true, refl, sym, ◌∙◌, ap, ap₂, ◌≤◌, List, [], ◌∷◌, arith, IsTrue}
use Rattle.std.specs.Prelude.{◌≢◌, Result, Ok, Err, IfOk, MatchResult}
use Rattle.vocab.specs.declared.sentences.Formula.{Formula}
use Rattle.vocab.specs.Formula.{quantifier_depth}
use Rattle.vocab.specs.Limits as limits
use Rattle.vocab.specs.NamedDepth.{named_depth, quantifiers}
use Rattle.vocab.specs.NamedTree.{NamedTree}
use Rattle.vocab.specs.Size.{Extent}
use Rattle.vocab.specs.Sorted.{is_sorted_if}
use Rattle.vocab.specs.Tree.{Tree, tree_of}
use Rattle.meaning.specs.Truth.{is_true_at}
use Rattle.sorts.specs.declared.faults.SortFault.{SortFault}
use Rattle.sorts.specs.declared.faults.SortFault.TheVariants.{NoMemory}
use Rattle.sorts.specs.Answers.{first_or, answer_of}
use Rattle.sorts.specs.Faults.{faults}
use Rattle.sorts.specs.Laws.{HasShapeOf, HasTruthOf}
use Rattle.sorts.specs.Resolved.{resolved}
use Rattle.sorts.specs.Scope.{Scope}
use Rattle.sorts.specs.Visits.{IsFirst, IsVisit}
use Rattle.sorts.proofs.Depths.{formula_as_deep, formula_quantified, formula_leading}
use Rattle.sorts.proofs.Sorting.{formula_sorted}
use Rattle.sorts.proofs.Truths.{same_truth}

pub has_shape : (size : Extent) (scope : Scope) (f : NamedTree) → faults size scope f ≡ [] → HasShapeOf size scope f (resolved size scope f)
has_shape size scope f none = record {
  sorted = formula_sorted size scope f none;
  as_deep = formula_as_deep size scope f none;
  quantified = formula_quantified size scope f;
  leading = formula_leading size scope f;
}

first_answer : (e : SortFault) (xs : List SortFault) (t : Tree) → IsFirst e xs → first_or xs t ≡ Err e
first_answer e [] t h = absurd h
first_answer e (x ∷ xs) t h = ap Err (sym h)

-- a visit of a whole sentence
abbrev pub IsWholeVisit : Extent → NamedTree → Result Formula SortFault → Type 0
IsWholeVisit size f r = IsVisit (faults size [] f) (λ t. tree_of t ≡ resolved size [] f) r

pub whole_answer : (size : Extent) (f : NamedTree) (r : Result Formula SortFault) → IsWholeVisit size f r
    → MatchResult r (λ t. answer_of size f ≡ Ok (tree_of t)) (λ e. e ≢ NoMemory → answer_of size f ≡ Err e)
unfolding answer_of
whole_answer size f (Ok t) h = ap₂ first_or h.0 (sym h.1)
whole_answer size f (Err e) h = λ memory. first_answer e (faults size [] f) (resolved size [] f) (h memory)

pub whole_sorted : (size : Extent) (f : NamedTree) (r : Result Formula SortFault) → IsWholeVisit size f r → IfOk r (λ t. IsTrue (is_sorted_if true size [] (tree_of t)))
whole_sorted size f (Ok t) h = ap (is_sorted_if true size []) h.1 ∙ formula_sorted size [] f h.0
whole_sorted size f (Err e) h = tt

pub whole_quantified : (size : Extent) (f : NamedTree) (r : Result Formula SortFault) → quantifiers f ≤ 12 → IsWholeVisit size f r → IfOk r (λ t. quantifier_depth (tree_of t) ≤ 12)
whole_quantified size f (Ok t) few h = let e = ap quantifier_depth h.1 ∙ formula_quantified size [] f in omega (arith, e, few)
whole_quantified size f (Err e) few h = tt

pub whole_shallow : (size : Extent) (f : NamedTree) (r : Result Formula SortFault) → named_depth f ≤ 64 → IsWholeVisit size f r → IfOk r (λ t. limits.depth (tree_of t) ≤ 64)
whole_shallow size f (Ok t) few h = let e = ap limits.depth h.1 ∙ formula_as_deep size [] f h.0 in omega (arith, e, few)
whole_shallow size f (Err e) few h = tt

pub whole_truth : (size : Extent) (f : NamedTree) (r : Result Formula SortFault) → IsWholeVisit size f r → IfOk r (λ t. HasTruthOf size f (tree_of t))
whole_truth size f (Ok t) h = λ table. ap (λ x. is_true_at size table x []) h.1 ∙ same_truth size table [] [] refl f h.0
whole_truth size f (Err e) h = tt
