-- A sentence without faults and the tree that it resolves to have one truth.
use Rattle.std.proofs.Common.{◌≡◌, refl, sym, ◌∙◌, ap, ap₂, ℕ, Bool, List, [], ◌∷◌, map, Some}
use Rattle.std.proofs.Math.Path.{fun_ext}
use Rattle.std.specs.Prelude.{not, ◌&&◌, ◌||◌, ◌==◌}
use Rattle.std.specs.Bool.{beq}
use Rattle.std.specs.List.{list_all, list_any}
use Rattle.std.specs.Option.{unwrap_or}
use Rattle.vocab.specs.declared.kinds.Sort.{Sort}
use Rattle.vocab.specs.NamedTree as tree
use Rattle.vocab.specs.NamedTree.{NamedTermTree, NamedTermTrees, NamedTree}
use Rattle.vocab.specs.Size.{Extent, sort_count}
use Rattle.vocab.specs.Tree.{TermTree}
use Rattle.meaning.specs.Space.{below}
use Rattle.meaning.specs.Truth.{value, is_atom_true, is_true_at}
use Rattle.sorts.specs.declared.symbols.Function.{Function}
use Rattle.sorts.specs.declared.symbols.Function.TheVariants.{With, SwapVoters, SwapAlts, Swap}
use Rattle.sorts.specs.declared.symbols.Predicate.{Predicate}
use Rattle.sorts.specs.declared.symbols.Predicate.TheVariants.{Prefers, Better, Casts, Majority, Wins, Ranks}
use Rattle.sorts.specs.Faults.{fault_unless, argument_count, sort_of, are_same, term_faults, argument_faults, faults}
use Rattle.sorts.specs.NamedTruth.{Assignment, function_value, is_said_truly, named_value, named_values, is_named_true}
use Rattle.sorts.specs.Resolved.{function_tree, predicate_tree, resolved_term, resolved_terms, resolved}
use Rattle.sorts.specs.Scope.{Scope, sort_in, outermost_first, names_of}
use Rattle.sorts.specs.Symbols.{function_of, predicate_of, function_sorts, predicate_sorts}
use Rattle.sorts.proofs.Levels.{value_at_level}
use Rattle.sorts.proofs.Sorting.{none_left, none_right, has_value, function_right, predicate_right, AreRight, are_right, AreOfSorts, terms_sorted, two_terms, three_terms, four_terms}

-- the value of a function at terms is what it gives at their values
value_of_function : (size : Extent) (around : List Sort) (env : List ℕ) (f : Function) (ts : List TermTree) → AreOfSorts size around (function_sorts f) ts
    → value size env (function_tree (Some f) ts) ≡ function_value size (Some f) (map (value size env) ts)
value_of_function size around env With ts are = three_terms size around _ _ _ (λ us. value size env (function_tree (Some With) us) ≡ function_value size (Some With) (map (value size env) us)) (λ x y z hx hy hz. refl) ts are
value_of_function size around env SwapVoters ts are = three_terms size around _ _ _ (λ us. value size env (function_tree (Some SwapVoters) us) ≡ function_value size (Some SwapVoters) (map (value size env) us)) (λ x y z hx hy hz. refl) ts are
value_of_function size around env SwapAlts ts are = three_terms size around _ _ _ (λ us. value size env (function_tree (Some SwapAlts) us) ≡ function_value size (Some SwapAlts) (map (value size env) us)) (λ x y z hx hy hz. refl) ts are
value_of_function size around env Swap ts are = three_terms size around _ _ _ (λ us. value size env (function_tree (Some Swap) us) ≡ function_value size (Some Swap) (map (value size env) us)) (λ x y z hx hy hz. refl) ts are

-- a predicate is true of terms where it is of their values
truth_of_predicate : (size : Extent) (around : List Sort) (table env : List ℕ) (p : Predicate) (ts : List TermTree) → AreOfSorts size around (predicate_sorts p) ts
    → is_atom_true size table env (predicate_tree (Some p) ts) ≡ is_said_truly size table (Some p) (map (value size env) ts)
truth_of_predicate size around table env Prefers ts are = four_terms size around _ _ _ _ (λ us. is_atom_true size table env (predicate_tree (Some Prefers) us) ≡ is_said_truly size table (Some Prefers) (map (value size env) us)) (λ x y z w hx hy hz hw. refl) ts are
truth_of_predicate size around table env Better ts are = three_terms size around _ _ _ (λ us. is_atom_true size table env (predicate_tree (Some Better) us) ≡ is_said_truly size table (Some Better) (map (value size env) us)) (λ x y z hx hy hz. refl) ts are
truth_of_predicate size around table env Casts ts are = three_terms size around _ _ _ (λ us. is_atom_true size table env (predicate_tree (Some Casts) us) ≡ is_said_truly size table (Some Casts) (map (value size env) us)) (λ x y z hx hy hz. refl) ts are
truth_of_predicate size around table env Majority ts are = three_terms size around _ _ _ (λ us. is_atom_true size table env (predicate_tree (Some Majority) us) ≡ is_said_truly size table (Some Majority) (map (value size env) us)) (λ x y z hx hy hz. refl) ts are
truth_of_predicate size around table env Wins ts are = two_terms size around _ _ (λ us. is_atom_true size table env (predicate_tree (Some Wins) us) ≡ is_said_truly size table (Some Wins) (map (value size env) us)) (λ x y hx hy. refl) ts are
truth_of_predicate size around table env Ranks ts are = three_terms size around _ _ _ (λ us. is_atom_true size table env (predicate_tree (Some Ranks) us) ≡ is_said_truly size table (Some Ranks) (map (value size env) us)) (λ x y z hx hy hz. refl) ts are

module _ (size : Extent) where
  mutual
    term_value : (scope : Scope) (assignment : Assignment) → names_of assignment ≡ names_of scope → (t : NamedTermTree) → term_faults size scope t ≡ []
        → value size (outermost_first assignment) (resolved_term size scope t) ≡ named_value size assignment t
    term_value scope assignment same (tree.Var name) none =
        let bound = has_value (sort_in name scope) _ none in
        let found = value_at_level name scope bound.0 assignment same bound.1 in
        found.2 ∙ sym (ap (λ o. unwrap_or o 0) found.1)
    term_value scope assignment same (tree.Call name ts) none =
        let right = function_right name (function_of name) (argument_count ts) (λ sorts. argument_faults size scope name 1 sorts ts) none in
        let own = are_right size scope name 1 (function_sorts right.0) ts right.2 right.3 in
        let are = terms_sorted size scope (function_sorts right.0) ts own in
        ap (λ o. value size (outermost_first assignment) (function_tree o (resolved_terms size scope ts))) right.1
        ∙ value_of_function size (outermost_first scope) (outermost_first assignment) right.0 (resolved_terms size scope ts) are
        ∙ ap₂ (function_value size) (sym right.1) (term_values scope assignment same (function_sorts right.0) ts own)
    term_value scope assignment same p none = refl

    term_values : (scope : Scope) (assignment : Assignment) → names_of assignment ≡ names_of scope → (sorts : List Sort) (ts : NamedTermTrees) → AreRight size scope sorts ts
        → map (value size (outermost_first assignment)) (resolved_terms size scope ts) ≡ named_values size assignment ts
    term_values scope assignment same sorts tree.NoArguments h = refl
    term_values scope assignment same [] (tree.Argument t ts) h = absurd h
    term_values scope assignment same (s ∷ sorts) (tree.Argument t ts) h = ap₂ (λ v vs. v ∷ vs) (term_value scope assignment same t h.0) (term_values scope assignment same sorts ts h.2)

  pub same_truth : (table : List ℕ) (scope : Scope) (assignment : Assignment) → names_of assignment ≡ names_of scope → (f : NamedTree) → faults size scope f ≡ []
      → is_true_at size table (resolved size scope f) (outermost_first assignment) ≡ is_named_true size table assignment f
  same_truth table scope assignment same (tree.Pred name ts) none =
      let right = predicate_right size.kind name (predicate_of name) (argument_count ts) (λ sorts. argument_faults size scope name 1 sorts ts) none in
      let own = are_right size scope name 1 (predicate_sorts right.0) ts right.2 right.4 in
      let are = terms_sorted size scope (predicate_sorts right.0) ts own in
      ap (λ o. is_atom_true size table (outermost_first assignment) (predicate_tree o (resolved_terms size scope ts))) right.1
      ∙ truth_of_predicate size (outermost_first scope) table (outermost_first assignment) right.0 (resolved_terms size scope ts) are
      ∙ ap₂ (is_said_truly size table) (sym right.1) (term_values scope assignment same (predicate_sorts right.0) ts own)
  same_truth table scope assignment same (tree.Equal s t) none =
      let terms = none_left _ (fault_unless (are_same (sort_of scope s) (sort_of scope t)) _) none in
      ap₂ (λ a b. a == b) (term_value scope assignment same s (none_left _ (term_faults size scope t) terms)) (term_value scope assignment same t (none_right (term_faults size scope s) _ terms))
  same_truth table scope assignment same (tree.Not f) none = ap not (same_truth table scope assignment same f none)
  same_truth table scope assignment same (tree.Both f g) none =
      ap₂ (λ a b. a && b) (same_truth table scope assignment same f (none_left _ (faults size scope g) none)) (same_truth table scope assignment same g (none_right (faults size scope f) _ none))
  same_truth table scope assignment same (tree.Either f g) none =
      ap₂ (λ a b. a || b) (same_truth table scope assignment same f (none_left _ (faults size scope g) none)) (same_truth table scope assignment same g (none_right (faults size scope f) _ none))
  same_truth table scope assignment same (tree.Implies f g) none =
      ap₂ (λ a b. not a || b) (same_truth table scope assignment same f (none_left _ (faults size scope g) none)) (same_truth table scope assignment same g (none_right (faults size scope f) _ none))
  same_truth table scope assignment same (tree.Same f g) none =
      ap₂ (λ a b. beq a b) (same_truth table scope assignment same f (none_left _ (faults size scope g) none)) (same_truth table scope assignment same g (none_right (faults size scope f) _ none))
  same_truth table scope assignment same (tree.All name s f) none =
      ap (λ (t : ℕ → Bool). list_all t (below (sort_count size s))) (fun_ext (λ v. same_truth table ((name, s) ∷ scope) ((name, v) ∷ assignment) (ap (λ ns. name ∷ ns) same) f none))
  same_truth table scope assignment same (tree.Exists name s f) none =
      ap (λ (t : ℕ → Bool). list_any t (below (sort_count size s))) (fun_ext (λ v. same_truth table ((name, s) ∷ scope) ((name, v) ∷ assignment) (ap (λ ns. name ∷ ns) same) f none))
