-- A sentence without faults resolves to a well-sorted tree of its shape.
use Rattle.std.proofs.Common.{◌≡◌, refl, sym, ◌∙◌, ap, ℕ, zero, suc, ◌+◌, ◌-◌, ◌<◌, Bool, true, false, List, [], ◌∷◌, ◌++◌, length, cond, arith, Option, Some, None, lt-ltb, ltb-true, leb-true, eqb-true}
use Rattle.std.specs.Prelude.{◌==◌, ◌&&◌, option_map, nat_lt, nat_le, find}
use Rattle.std.specs.List.{list_any}
use Rattle.std.specs.Option.{unwrap_or}
use Rattle.std.specs.Str.{bytes_eq}
use Rattle.std.proofs.lemmas.Bool.{and_parts, and_from, or_right, or_left}
use Rattle.vocab.specs.declared.kinds.Kind.{Kind}
use Rattle.vocab.specs.declared.kinds.Sort.{Sort}
use Rattle.vocab.specs.declared.kinds.Sort.TheVariants.{Voter, Alt, Ballot, Profile}
use Rattle.vocab.specs.NamedTree as tree
use Rattle.vocab.specs.NamedTree.{NamedTermTree, NamedTermTrees, NamedTree}
use Rattle.vocab.specs.Size.{Extent, sort_count, ballot_count}
use Rattle.vocab.specs.Sorted.{same_sort, all_sorts, is_option_sort, is_of_sort_if, is_atom_sorted_if, is_sorted_if}
use Rattle.vocab.specs.Tree as plain
use Rattle.vocab.specs.Tree.{TermTree}
use Rattle.vocab.proofs.SortLaws.{same_sort_is}
use Rattle.meaning.specs.Space.{up_from}
use Rattle.meaning.specs.Texts.{ballot_text}
use Rattle.sorts.specs.declared.faults.SortFault.{SortFault}
use Rattle.sorts.specs.declared.symbols.Function.{Function}
use Rattle.sorts.specs.declared.symbols.Function.TheVariants.{With, SwapVoters, SwapAlts, Swap}
use Rattle.sorts.specs.declared.symbols.Predicate.{Predicate}
use Rattle.sorts.specs.declared.symbols.Predicate.TheVariants.{Prefers, Better, Casts, Majority, Wins, Ranks}
use Rattle.sorts.specs.Constants.{voter_value, alternative_value, ballot_value}
use Rattle.sorts.specs.Faults.{fault_unless, where_none, argument_count, sort_of, are_same, function_faults, predicate_faults, term_faults, argument_faults, faults}
use Rattle.sorts.specs.Resolved.{function_tree, predicate_tree, resolved_term, resolved_terms, resolved}
use Rattle.sorts.specs.Scope.{Scope, sort_in, outermost_first}
use Rattle.sorts.proofs.Levels.{sort_at_level}
use Rattle.sorts.specs.Symbols.{function_of, predicate_of, function_sorts, predicate_sorts, given_sort, is_said_of}

-- ---- lists of faults

-- two lists that give none together are empty
pub none_left : (xs ys : List SortFault) → xs ++ ys ≡ [] → xs ≡ []
none_left [] ys h = refl
none_left (x ∷ xs) ys h = absurd cc

pub none_right : (xs ys : List SortFault) → xs ++ ys ≡ [] → ys ≡ []
none_right [] ys h = h
none_right (x ∷ xs) ys h = absurd cc

-- a test that gives no fault holds
pub holds_unless : (b : Bool) (e : SortFault) → fault_unless b e ≡ [] → b ≡ true
holds_unless true e h = refl
holds_unless false e h = absurd cc

-- what gives no fault has a value
pub has_value : {A : Type 0} (o : Option A) (e : SortFault) → where_none o e ≡ [] → (v : A) × (o ≡ Some v)
has_value None e h = absurd cc
has_value (Some v) e h = (v, refl)

-- ---- symbols

-- a function without faults is known, has its arguments, and nothing is wrong with them
pub function_right : (name : List ℕ) (o : Option Function) (count : ℕ) (K : List Sort → List SortFault) → function_faults name o count K ≡ []
    → (f : Function) × (o ≡ Some f) × (count ≡ length (function_sorts f)) × (K (function_sorts f) ≡ [])
function_right name None count K h = absurd cc
function_right name (Some f) count K h =
    elim (count == length (function_sorts f)) as (λ b. (count == length (function_sorts f)) ≡ b → cond b (K (function_sorts f)) (Rattle.sorts.specs.declared.faults.SortFault.TheVariants.Arity name ∷ []) ≡ []
    → (g : Function) × (Some f ≡ Some g) × (count ≡ length (function_sorts g)) × (K (function_sorts g) ≡ [])) [
      | true ↦ λ e k. (f, refl, eqb-true count (length (function_sorts f)) e, k)
      | false ↦ λ e k. absurd cc
    ] refl h

pub predicate_right : (kind : Kind) (name : List ℕ) (o : Option Predicate) (count : ℕ) (K : List Sort → List SortFault) → predicate_faults kind name o count K ≡ []
    → (p : Predicate) × (o ≡ Some p) × (count ≡ length (predicate_sorts p)) × (is_said_of kind p ≡ true) × (K (predicate_sorts p) ≡ [])
predicate_right kind name None count K h = absurd cc
predicate_right kind name (Some p) count K h =
    elim (count == length (predicate_sorts p)) as (λ b. (count == length (predicate_sorts p)) ≡ b
    → cond b (fault_unless (is_said_of kind p) (Rattle.sorts.specs.declared.faults.SortFault.TheVariants.Kind name) ++ K (predicate_sorts p)) (Rattle.sorts.specs.declared.faults.SortFault.TheVariants.Arity name ∷ []) ≡ []
    → (q : Predicate) × (Some p ≡ Some q) × (count ≡ length (predicate_sorts q)) × (is_said_of kind q ≡ true) × (K (predicate_sorts q) ≡ [])) [
      | true ↦ λ e k. (p, refl, eqb-true count (length (predicate_sorts p)) e, holds_unless (is_said_of kind p) _ (none_left _ _ k), none_right _ _ k)
      | false ↦ λ e k. absurd cc
    ] refl h

-- ---- arguments that have as many as they should

-- each argument of some sorts has no fault of its own, and its sort
abbrev pub AreRight : Extent → Scope → List Sort → NamedTermTrees → Type 0
AreRight size scope [] tree.NoArguments = Unit {0}
AreRight size scope [] (tree.Argument t ts) = ⊥
AreRight size scope (s ∷ sorts) tree.NoArguments = ⊥
AreRight size scope (s ∷ sorts) (tree.Argument t ts) = (term_faults size scope t ≡ []) × (is_option_sort s (sort_of scope t) ≡ true) × AreRight size scope sorts ts

pub are_right : (size : Extent) (scope : Scope) (symbol : List ℕ) (place : ℕ) (sorts : List Sort) (ts : NamedTermTrees) → argument_count ts ≡ length sorts
    → argument_faults size scope symbol place sorts ts ≡ [] → AreRight size scope sorts ts
are_right size scope symbol place [] tree.NoArguments n h = tt
are_right size scope symbol place [] (tree.Argument t ts) n h = absurd (omega (arith, n))
are_right size scope symbol place (s ∷ sorts) tree.NoArguments n h = absurd (omega (arith, n))
are_right size scope symbol place (s ∷ sorts) (tree.Argument t ts) n h =
    let own = none_left _ (argument_faults size scope symbol (place + 1) sorts ts) h in (
      none_left _ _ own,
      holds_unless _ _ (none_right (term_faults size scope t) _ own),
      are_right size scope symbol (place + 1) sorts ts (omega (arith, n)) (none_right _ (argument_faults size scope symbol (place + 1) sorts ts) h),
    )

-- ---- constants

found_below : (t : ℕ → Bool) (a n v : ℕ) → find t (up_from a n) ≡ Some v → v < a + n
found_below t a zero v h = absurd cc
found_below t a (suc n) v h =
    elim (t a) as (λ b. cond b (Some a) (find t (up_from (suc a) n)) ≡ Some v → v < a + suc n) [
      | true ↦ λ k. let e : a ≡ v = cc in omega (arith, e)
      | false ↦ λ k. omega (arith, found_below t (suc a) n v k)
    ] h

ballot_below : (size : Extent) (letters : List ℕ) (v : ℕ) → ballot_value size letters ≡ Some v → v < ballot_count size
unfolding ballot_value
ballot_below size letters v h = omega (arith, found_below (λ b. bytes_eq letters (ballot_text size b)) 0 (ballot_count size) v h)

voter_below : (size : Extent) (i v : ℕ) → voter_value size i ≡ Some v → v < size.voters
voter_below size i v h =
    elim (nat_le 1 i && nat_le i size.voters) as (λ b. (nat_le 1 i && nat_le i size.voters) ≡ b → cond b (Some (i - 1)) None ≡ Some v → v < size.voters) [
      | true ↦ λ e k.
          let both = and_parts (nat_le 1 i) (nat_le i size.voters) e in
          let same : i - 1 ≡ v = cc in
          omega (arith, same, leb-true 1 i both.0, leb-true i size.voters both.1)
      | false ↦ λ e k. absurd cc
    ] refl h

alternative_below : (size : Extent) (x v : ℕ) → alternative_value size x ≡ Some v → v < size.alternatives
alternative_below size x v h =
    elim (nat_lt x size.alternatives) as (λ b. nat_lt x size.alternatives ≡ b → cond b (Some x) None ≡ Some v → v < size.alternatives) [
      | true ↦ λ e k. let same : x ≡ v = cc in omega (arith, same, ltb-true x size.alternatives e)
      | false ↦ λ e k. absurd cc
    ] refl h

-- ---- terms

-- terms of some sorts
abbrev pub AreOfSorts : Extent → List Sort → List Sort → List TermTree → Type 0
AreOfSorts size around [] [] = Unit {0}
AreOfSorts size around [] (t ∷ ts) = ⊥
AreOfSorts size around (s ∷ sorts) [] = ⊥
AreOfSorts size around (s ∷ sorts) (t ∷ ts) = (is_of_sort_if true size around s t ≡ true) × AreOfSorts size around sorts ts

-- a constant is of the sort that it has a number of
constant_of : (size : Extent) (around : List Sort) (s t : Sort) (v : ℕ) (o : Option ℕ) → same_sort s t ≡ true → v < sort_count size t → o ≡ Some v
    → is_of_sort_if true size around s (plain.Const (unwrap_or o 0)) ≡ true
constant_of size around s t v o same lt known =
    rw (same_sort_is s t same, known) (lt-ltb v (sort_count size t) lt)

-- what holds of any two, three or four terms of some sorts holds of the terms
pub two_terms : (size : Extent) (around : List Sort) (a b : Sort) (P : List TermTree → Type 0)
    → ((x y : TermTree) → is_of_sort_if true size around a x ≡ true → is_of_sort_if true size around b y ≡ true → P (x ∷ y ∷ []))
    → (ts : List TermTree) → AreOfSorts size around (a ∷ b ∷ []) ts → P ts
two_terms size around a b P each [] h = absurd h
two_terms size around a b P each (x ∷ []) h = absurd h.1
two_terms size around a b P each (x ∷ y ∷ []) h = each x y h.0 h.1.0
two_terms size around a b P each (x ∷ y ∷ z ∷ ts) h = absurd h.1.1

pub three_terms : (size : Extent) (around : List Sort) (a b c : Sort) (P : List TermTree → Type 0)
    → ((x y z : TermTree) → is_of_sort_if true size around a x ≡ true → is_of_sort_if true size around b y ≡ true → is_of_sort_if true size around c z ≡ true → P (x ∷ y ∷ z ∷ []))
    → (ts : List TermTree) → AreOfSorts size around (a ∷ b ∷ c ∷ []) ts → P ts
three_terms size around a b c P each [] h = absurd h
three_terms size around a b c P each (x ∷ ts) h = two_terms size around b c (λ us. P (x ∷ us)) (λ y z hy hz. each x y z h.0 hy hz) ts h.1

pub four_terms : (size : Extent) (around : List Sort) (a b c d : Sort) (P : List TermTree → Type 0)
    → ((x y z w : TermTree) → is_of_sort_if true size around a x ≡ true → is_of_sort_if true size around b y ≡ true → is_of_sort_if true size around c z ≡ true → is_of_sort_if true size around d w ≡ true → P (x ∷ y ∷ z ∷ w ∷ []))
    → (ts : List TermTree) → AreOfSorts size around (a ∷ b ∷ c ∷ d ∷ []) ts → P ts
four_terms size around a b c d P each [] h = absurd h
four_terms size around a b c d P each (x ∷ ts) h = three_terms size around b c d (λ us. P (x ∷ us)) (λ y z w hy hz hw. each x y z w h.0 hy hz hw) ts h.1

-- a function at terms of its sorts gives a value of the sort that it gives
function_of_sort : (size : Extent) (around : List Sort) (s : Sort) (f : Function) (ts : List TermTree) → AreOfSorts size around (function_sorts f) ts → same_sort s (given_sort f) ≡ true
    → is_of_sort_if true size around s (function_tree (Some f) ts) ≡ true
function_of_sort size around s With ts are h = three_terms size around _ _ _ (λ us. is_of_sort_if true size around s (function_tree (Some With) us) ≡ true) (λ x y z hx hy hz. and_from _ _ (and_from _ _ (and_from _ _ h hx) hy) hz) ts are
function_of_sort size around s SwapVoters ts are h = three_terms size around _ _ _ (λ us. is_of_sort_if true size around s (function_tree (Some SwapVoters) us) ≡ true) (λ x y z hx hy hz. and_from _ _ (and_from _ _ (and_from _ _ h hx) hy) hz) ts are
function_of_sort size around s SwapAlts ts are h = three_terms size around _ _ _ (λ us. is_of_sort_if true size around s (function_tree (Some SwapAlts) us) ≡ true) (λ x y z hx hy hz. and_from _ _ (and_from _ _ (and_from _ _ (and_from _ _ h hx) hy) hz) refl) ts are
function_of_sort size around s Swap ts are h = three_terms size around _ _ _ (λ us. is_of_sort_if true size around s (function_tree (Some Swap) us) ≡ true) (λ x y z hx hy hz. and_from _ _ (and_from _ _ (and_from _ _ h hx) hy) hz) ts are

-- a predicate at terms of its sorts is well sorted
predicate_sorted : (size : Extent) (around : List Sort) (p : Predicate) (ts : List TermTree) → AreOfSorts size around (predicate_sorts p) ts → is_said_of size.kind p ≡ true
    → is_atom_sorted_if true size around (predicate_tree (Some p) ts) ≡ true
predicate_sorted size around Prefers ts are h = four_terms size around _ _ _ _ (λ us. is_atom_sorted_if true size around (predicate_tree (Some Prefers) us) ≡ true) (λ x y z w hx hy hz hw. and_from _ _ (and_from _ _ (and_from _ _ hx hy) hz) hw) ts are
predicate_sorted size around Better ts are h = three_terms size around _ _ _ (λ us. is_atom_sorted_if true size around (predicate_tree (Some Better) us) ≡ true) (λ x y z hx hy hz. and_from _ _ (and_from _ _ hx hy) hz) ts are
predicate_sorted size around Casts ts are h = three_terms size around _ _ _ (λ us. is_atom_sorted_if true size around (predicate_tree (Some Casts) us) ≡ true) (λ x y z hx hy hz. and_from _ _ (and_from _ _ hx hy) hz) ts are
predicate_sorted size around Majority ts are h = three_terms size around _ _ _ (λ us. is_atom_sorted_if true size around (predicate_tree (Some Majority) us) ≡ true) (λ x y z hx hy hz. and_from _ _ (and_from _ _ hx hy) hz) ts are
predicate_sorted size around Wins ts are h = two_terms size around _ _ (λ us. is_atom_sorted_if true size around (predicate_tree (Some Wins) us) ≡ true) (λ x y hx hy. and_from _ _ (and_from _ _ h hx) hy) ts are
predicate_sorted size around Ranks ts are h = three_terms size around _ _ _ (λ us. is_atom_sorted_if true size around (predicate_tree (Some Ranks) us) ≡ true) (λ x y z hx hy hz. and_from _ _ (and_from _ _ (and_from _ _ h hx) hy) hz) ts are

-- the sort of a term, said of an option
given_of : (s : Sort) (o : Option Function) (f : Function) → o ≡ Some f → is_option_sort s (option_map given_sort o) ≡ true → same_sort s (given_sort f) ≡ true
given_of s o f known h = ap (λ q. is_option_sort s (option_map given_sort q)) (sym known) ∙ h

mutual
  -- a term without faults is of its sort
  pub term_sorted : (size : Extent) (scope : Scope) (s : Sort) (t : NamedTermTree) → term_faults size scope t ≡ [] → is_option_sort s (sort_of scope t) ≡ true
      → is_of_sort_if true size (outermost_first scope) s (resolved_term size scope t) ≡ true
  term_sorted size scope s (tree.Var name) none h =
      let found = has_value (sort_in name scope) _ none in
      ap (is_option_sort s) (sort_at_level name scope found.0 found.1 ∙ sym found.1) ∙ h
  term_sorted size scope s (tree.Voter i) none h = let found = has_value (voter_value size i) _ none in constant_of size (outermost_first scope) s Voter found.0 _ h (voter_below size i found.0 found.1) found.1
  term_sorted size scope s (tree.Alt x) none h = let found = has_value (alternative_value size x) _ none in constant_of size (outermost_first scope) s Alt found.0 _ h (alternative_below size x found.0 found.1) found.1
  term_sorted size scope s (tree.Ballot letters) none h = let found = has_value (ballot_value size letters) _ none in constant_of size (outermost_first scope) s Ballot found.0 _ h (ballot_below size letters found.0 found.1) found.1
  term_sorted size scope s (tree.Call name ts) none h =
      let right = function_right name (function_of name) (argument_count ts) (λ sorts. argument_faults size scope name 1 sorts ts) none in
      let are = terms_sorted size scope (function_sorts right.0) ts (are_right size scope name 1 (function_sorts right.0) ts right.2 right.3) in
      ap (λ o. is_of_sort_if true size (outermost_first scope) s (function_tree o (resolved_terms size scope ts))) right.1
      ∙ function_of_sort size (outermost_first scope) s right.0 (resolved_terms size scope ts) are (given_of s (function_of name) right.0 right.1 h)

  -- and so are arguments
  pub terms_sorted : (size : Extent) (scope : Scope) (sorts : List Sort) (ts : NamedTermTrees) → AreRight size scope sorts ts → AreOfSorts size (outermost_first scope) sorts (resolved_terms size scope ts)
  terms_sorted size scope [] tree.NoArguments h = tt
  terms_sorted size scope [] (tree.Argument t ts) h = absurd h
  terms_sorted size scope (s ∷ sorts) tree.NoArguments h = absurd h
  terms_sorted size scope (s ∷ sorts) (tree.Argument t ts) h = (term_sorted size scope s t h.0 h.1, terms_sorted size scope sorts ts h.2)

-- ---- formulas

same_self : (s : Sort) → same_sort s s ≡ true
same_self Voter = refl
same_self Alt = refl
same_self Ballot = refl
same_self Profile = refl

some_sort : (g : Sort → Bool) (s : Sort) → g s ≡ true → list_any g all_sorts ≡ true
some_sort g Voter h = or_left (g Voter) _ h
some_sort g Alt h = or_right (g Voter) _ (or_left (g Alt) _ h)
some_sort g Ballot h = or_right (g Voter) _ (or_right (g Alt) _ (or_left (g Ballot) _ h))
some_sort g Profile h = or_right (g Voter) _ (or_right (g Alt) _ (or_right (g Ballot) _ (or_left (g Profile) false h)))

common_sort : (o q : Option Sort) → are_same o q ≡ true → (s : Sort) × (is_option_sort s o ≡ true) × (is_option_sort s q ≡ true)
common_sort None q h = absurd cc
common_sort (Some s) q h = (s, same_self s, h)

-- a formula without faults is well sorted
pub formula_sorted : (size : Extent) (scope : Scope) (f : NamedTree) → faults size scope f ≡ [] → is_sorted_if true size (outermost_first scope) (resolved size scope f) ≡ true
formula_sorted size scope (tree.Pred name ts) none =
    let right = predicate_right size.kind name (predicate_of name) (argument_count ts) (λ sorts. argument_faults size scope name 1 sorts ts) none in
    let are = terms_sorted size scope (predicate_sorts right.0) ts (are_right size scope name 1 (predicate_sorts right.0) ts right.2 right.4) in
    ap (λ o. is_atom_sorted_if true size (outermost_first scope) (predicate_tree o (resolved_terms size scope ts))) right.1
    ∙ predicate_sorted size (outermost_first scope) right.0 (resolved_terms size scope ts) are right.3
formula_sorted size scope (tree.Equal s t) none =
    let terms = none_left _ (fault_unless (are_same (sort_of scope s) (sort_of scope t)) _) none in
    let same = common_sort (sort_of scope s) (sort_of scope t) (holds_unless _ _ (none_right (term_faults size scope s ++ term_faults size scope t) _ none)) in
    some_sort (λ sort. is_of_sort_if true size (outermost_first scope) sort (resolved_term size scope s) && is_of_sort_if true size (outermost_first scope) sort (resolved_term size scope t)) same.0
    (and_from _ _ (term_sorted size scope same.0 s (none_left _ (term_faults size scope t) terms) same.1) (term_sorted size scope same.0 t (none_right (term_faults size scope s) _ terms) same.2))
formula_sorted size scope (tree.Not f) none = formula_sorted size scope f none
formula_sorted size scope (tree.Both f g) none = and_from _ _ (formula_sorted size scope f (none_left _ (faults size scope g) none)) (formula_sorted size scope g (none_right (faults size scope f) _ none))
formula_sorted size scope (tree.Either f g) none = and_from _ _ (formula_sorted size scope f (none_left _ (faults size scope g) none)) (formula_sorted size scope g (none_right (faults size scope f) _ none))
formula_sorted size scope (tree.Implies f g) none = and_from _ _ (formula_sorted size scope f (none_left _ (faults size scope g) none)) (formula_sorted size scope g (none_right (faults size scope f) _ none))
formula_sorted size scope (tree.Same f g) none = and_from _ _ (formula_sorted size scope f (none_left _ (faults size scope g) none)) (formula_sorted size scope g (none_right (faults size scope f) _ none))
formula_sorted size scope (tree.All name s f) none = formula_sorted size ((name, s) ∷ scope) f none
formula_sorted size scope (tree.Exists name s f) none = formula_sorted size ((name, s) ∷ scope) f none
