-- A sentence without faults resolves to a tree that is as deep, with as many quantifiers on one path and the same leading universals.
use Rattle.std.proofs.Common.{◌≡◌, refl, ◌∙◌, ap, ap₂, ℕ, suc, ◌+◌, max, List, [], ◌∷◌, arith, Some}
use Rattle.vocab.specs.declared.kinds.Sort.{Sort}
use Rattle.vocab.specs.Formula.{prefix_of, quantifier_depth}
use Rattle.vocab.specs.Limits as limits
use Rattle.vocab.specs.NamedDepth.{term_depth, terms_depth, named_depth, quantifiers}
use Rattle.vocab.specs.NamedTree as tree
use Rattle.vocab.specs.NamedTree.{NamedTermTree, NamedTermTrees, NamedTree}
use Rattle.vocab.specs.Size.{Extent}
use Rattle.vocab.specs.Tree.{TermTree}
use Rattle.sorts.specs.declared.symbols.Function.{Function}
use Rattle.sorts.specs.declared.symbols.Function.TheVariants.{With, SwapVoters, SwapAlts, Swap}
use Rattle.sorts.specs.declared.symbols.Predicate.{Predicate}
use Rattle.sorts.specs.declared.symbols.Predicate.TheVariants.{Prefers, Better, Casts, Majority, Wins, Ranks}
use Rattle.sorts.specs.Faults.{fault_unless, argument_count, sort_of, are_same, term_faults, argument_faults, faults}
use Rattle.sorts.specs.Laws.{leading_sorts}
use Rattle.sorts.specs.Resolved.{function_tree, predicate_tree, resolved_term, resolved_terms, resolved}
use Rattle.sorts.specs.Scope.{Scope, outermost_first}
use Rattle.sorts.specs.Symbols.{function_of, predicate_of, function_sorts, predicate_sorts}
use Rattle.sorts.proofs.Sorting.{none_left, none_right, function_right, predicate_right, AreRight, are_right, AreOfSorts, terms_sorted, two_terms, three_terms, four_terms}

-- the depth of the deepest of some terms
abbrev pub deepest : List TermTree → ℕ
deepest [] = 0
deepest (t ∷ ts) = max (limits.term_depth t) (deepest ts)

function_depth : (size : Extent) (around : List Sort) (f : Function) (ts : List TermTree) → AreOfSorts size around (function_sorts f) ts → limits.term_depth (function_tree (Some f) ts) ≡ suc (deepest ts)
function_depth size around With ts are = three_terms size around _ _ _ (λ us. limits.term_depth (function_tree (Some With) us) ≡ suc (deepest us)) (λ x y z hx hy hz. omega arith) ts are
function_depth size around SwapVoters ts are = three_terms size around _ _ _ (λ us. limits.term_depth (function_tree (Some SwapVoters) us) ≡ suc (deepest us)) (λ x y z hx hy hz. omega arith) ts are
function_depth size around SwapAlts ts are = three_terms size around _ _ _ (λ us. limits.term_depth (function_tree (Some SwapAlts) us) ≡ suc (deepest us)) (λ x y z hx hy hz. omega arith) ts are
function_depth size around Swap ts are = three_terms size around _ _ _ (λ us. limits.term_depth (function_tree (Some Swap) us) ≡ suc (deepest us)) (λ x y z hx hy hz. omega arith) ts are

predicate_depth : (size : Extent) (around : List Sort) (p : Predicate) (ts : List TermTree) → AreOfSorts size around (predicate_sorts p) ts → limits.atom_depth (predicate_tree (Some p) ts) ≡ suc (deepest ts)
predicate_depth size around Prefers ts are = four_terms size around _ _ _ _ (λ us. limits.atom_depth (predicate_tree (Some Prefers) us) ≡ suc (deepest us)) (λ x y z w hx hy hz hw. omega arith) ts are
predicate_depth size around Better ts are = three_terms size around _ _ _ (λ us. limits.atom_depth (predicate_tree (Some Better) us) ≡ suc (deepest us)) (λ x y z hx hy hz. omega arith) ts are
predicate_depth size around Casts ts are = three_terms size around _ _ _ (λ us. limits.atom_depth (predicate_tree (Some Casts) us) ≡ suc (deepest us)) (λ x y z hx hy hz. omega arith) ts are
predicate_depth size around Majority ts are = three_terms size around _ _ _ (λ us. limits.atom_depth (predicate_tree (Some Majority) us) ≡ suc (deepest us)) (λ x y z hx hy hz. omega arith) ts are
predicate_depth size around Wins ts are = two_terms size around _ _ (λ us. limits.atom_depth (predicate_tree (Some Wins) us) ≡ suc (deepest us)) (λ x y hx hy. omega arith) ts are
predicate_depth size around Ranks ts are = three_terms size around _ _ _ (λ us. limits.atom_depth (predicate_tree (Some Ranks) us) ≡ suc (deepest us)) (λ x y z hx hy hz. omega arith) ts are

mutual
  term_as_deep : (size : Extent) (scope : Scope) (t : NamedTermTree) → term_faults size scope t ≡ [] → limits.term_depth (resolved_term size scope t) ≡ term_depth t
  term_as_deep size scope (tree.Call name ts) none =
      let right = function_right name (function_of name) (argument_count ts) (λ sorts. argument_faults size scope name 1 sorts ts) none in
      let own = are_right size scope name 1 (function_sorts right.0) ts right.2 right.3 in
      let are = terms_sorted size scope (function_sorts right.0) ts own in
      ap (λ o. limits.term_depth (function_tree o (resolved_terms size scope ts))) right.1
      ∙ function_depth size (outermost_first scope) right.0 (resolved_terms size scope ts) are ∙ ap suc (terms_as_deep size scope (function_sorts right.0) ts own)
  term_as_deep size scope p none = refl

  terms_as_deep : (size : Extent) (scope : Scope) (sorts : List Sort) (ts : NamedTermTrees) → AreRight size scope sorts ts → deepest (resolved_terms size scope ts) ≡ terms_depth ts
  terms_as_deep size scope sorts tree.NoArguments h = refl
  terms_as_deep size scope [] (tree.Argument t ts) h = absurd h
  terms_as_deep size scope (s ∷ sorts) (tree.Argument t ts) h = ap₂ (λ a b. max a b) (term_as_deep size scope t h.0) (terms_as_deep size scope sorts ts h.2)

-- two parts that are as deep
both_as_deep : (a b c d : ℕ) → a ≡ c → b ≡ d → max a b + 1 ≡ suc (max c d)
both_as_deep a b c d h k = omega (arith, h, k)

one_as_deep : (a c : ℕ) → a ≡ c → a + 1 ≡ suc c
one_as_deep a c h = omega (arith, h)

pub formula_as_deep : (size : Extent) (scope : Scope) (f : NamedTree) → faults size scope f ≡ [] → limits.depth (resolved size scope f) ≡ named_depth f
formula_as_deep size scope (tree.Pred name ts) none =
    let right = predicate_right size.kind name (predicate_of name) (argument_count ts) (λ sorts. argument_faults size scope name 1 sorts ts) none in
    let own = are_right size scope name 1 (predicate_sorts right.0) ts right.2 right.4 in
    let are = terms_sorted size scope (predicate_sorts right.0) ts own in
    ap (λ o. limits.atom_depth (predicate_tree o (resolved_terms size scope ts))) right.1
    ∙ predicate_depth size (outermost_first scope) right.0 (resolved_terms size scope ts) are ∙ ap suc (terms_as_deep size scope (predicate_sorts right.0) ts own)
formula_as_deep size scope (tree.Equal s t) none =
    let terms = none_left _ (fault_unless (are_same (sort_of scope s) (sort_of scope t)) _) none in
    both_as_deep _ _ _ _ (term_as_deep size scope s (none_left _ (term_faults size scope t) terms)) (term_as_deep size scope t (none_right (term_faults size scope s) _ terms))
formula_as_deep size scope (tree.Not f) none = one_as_deep _ _ (formula_as_deep size scope f none)
formula_as_deep size scope (tree.Both f g) none = both_as_deep _ _ _ _ (formula_as_deep size scope f (none_left _ (faults size scope g) none)) (formula_as_deep size scope g (none_right (faults size scope f) _ none))
formula_as_deep size scope (tree.Either f g) none = both_as_deep _ _ _ _ (formula_as_deep size scope f (none_left _ (faults size scope g) none)) (formula_as_deep size scope g (none_right (faults size scope f) _ none))
formula_as_deep size scope (tree.Implies f g) none = both_as_deep _ _ _ _ (formula_as_deep size scope f (none_left _ (faults size scope g) none)) (formula_as_deep size scope g (none_right (faults size scope f) _ none))
formula_as_deep size scope (tree.Same f g) none = both_as_deep _ _ _ _ (formula_as_deep size scope f (none_left _ (faults size scope g) none)) (formula_as_deep size scope g (none_right (faults size scope f) _ none))
formula_as_deep size scope (tree.All name s f) none = one_as_deep _ _ (formula_as_deep size ((name, s) ∷ scope) f none)
formula_as_deep size scope (tree.Exists name s f) none = one_as_deep _ _ (formula_as_deep size ((name, s) ∷ scope) f none)

pub formula_quantified : (size : Extent) (scope : Scope) (f : NamedTree) → quantifier_depth (resolved size scope f) ≡ quantifiers f
formula_quantified size scope (tree.Pred name ts) = refl
formula_quantified size scope (tree.Equal s t) = refl
formula_quantified size scope (tree.Not f) = formula_quantified size scope f
formula_quantified size scope (tree.Both f g) = ap₂ (λ a b. max a b) (formula_quantified size scope f) (formula_quantified size scope g)
formula_quantified size scope (tree.Either f g) = ap₂ (λ a b. max a b) (formula_quantified size scope f) (formula_quantified size scope g)
formula_quantified size scope (tree.Implies f g) = ap₂ (λ a b. max a b) (formula_quantified size scope f) (formula_quantified size scope g)
formula_quantified size scope (tree.Same f g) = ap₂ (λ a b. max a b) (formula_quantified size scope f) (formula_quantified size scope g)
formula_quantified size scope (tree.All name s f) = one_as_deep _ _ (formula_quantified size ((name, s) ∷ scope) f)
formula_quantified size scope (tree.Exists name s f) = one_as_deep _ _ (formula_quantified size ((name, s) ∷ scope) f)

pub formula_leading : (size : Extent) (scope : Scope) (f : NamedTree) → prefix_of (resolved size scope f) ≡ leading_sorts f
formula_leading size scope (tree.All name s f) = ap (λ l. s ∷ l) (formula_leading size ((name, s) ∷ scope) f)
formula_leading size scope p = refl
