-- What is wrong with a symbol at its arguments, once its name is known.
use Rattle.std.proofs.Common.{◌≡◌, refl, sym, ◌∙◌, ap, ap₂, ℕ, true, false, List, [], ◌∷◌, ◌++◌, length, cond, Option, Some, eqb-true, eq-eqb}
use Rattle.std.specs.Prelude.{◌≢◌, ◌==◌, Result}
use Rattle.vocab.specs.declared.kinds.Kind.{Kind}
use Rattle.vocab.specs.declared.kinds.Sort.{Sort}
use Rattle.vocab.specs.NamedTree.{NamedTermTrees}
use Rattle.vocab.specs.Size.{Extent}
use Rattle.vocab.specs.Tree.{TermTree, atom_tree}
use Rattle.vocab.specs.declared.sentences.Atom.{Atom}
use Rattle.sorts.specs.declared.faults.SortFault.{SortFault}
use Rattle.sorts.specs.declared.faults.SortFault.TheVariants as fault
use Rattle.sorts.specs.declared.symbols.Function.{Function}
use Rattle.sorts.specs.declared.symbols.Function.TheVariants.{With, SwapVoters, SwapAlts, Swap}
use Rattle.sorts.specs.declared.symbols.Predicate.{Predicate}
use Rattle.sorts.specs.Faults.{fault_unless, function_faults, predicate_faults, argument_faults, argument_count}
use Rattle.sorts.specs.Resolved.{applied, function_tree, predicate_tree, resolved_terms}
use Rattle.sorts.specs.Scope.{Scope}
use Rattle.sorts.specs.Symbols.{function_sorts, predicate_sorts, is_said_of}
use Rattle.sorts.specs.Visits.{IsFirst, IsVisit}
use Rattle.sorts.proofs.Arguments.{Stops}

-- ---- tests of numbers

pub other_number : (n k : ℕ) → n ≢ k → (n == k) ≡ false
other_number n k ne = elim (n == k) as (λ b. (n == k) ≡ b → b ≡ false) [
  | true ↦ λ e. absurd (ne (eqb-true n k e))
  | false ↦ λ e. refl
] refl

-- ---- functions

three_sorts : (f : Function) → length (function_sorts f) ≡ 3
three_sorts With = refl
three_sorts SwapVoters = refl
three_sorts SwapAlts = refl
three_sorts Swap = refl

module _ (name : List ℕ) (o : Option Function) (f : Function) (known : o ≡ Some f) (count : ℕ) (in_arguments : List Sort → List SortFault) where
  -- a function with three arguments
  pub called : count ≡ 3 → function_faults name o count in_arguments ≡ in_arguments (function_sorts f)
  called three =
      ap (λ q. function_faults name q count in_arguments) known
      ∙ ap (λ b. cond b (in_arguments (function_sorts f)) (fault.Arity name ∷ [])) (eq-eqb count (length (function_sorts f)) (three ∙ sym (three_sorts f)))

  -- a function with another number of arguments
  pub miscalled : count ≢ 3 → function_faults name o count in_arguments ≡ fault.Arity name ∷ []
  miscalled other =
      ap (λ q. function_faults name q count in_arguments) known
      ∙ ap (λ b. cond b (in_arguments (function_sorts f)) (fault.Arity name ∷ [])) (other_number count (length (function_sorts f)) (λ e. other (e ∙ three_sorts f)))

pub arity_stops : (name symbol : List ℕ) (xs : List SortFault) → symbol ≡ name → xs ≡ fault.Arity name ∷ [] → IsFirst (fault.Arity symbol) xs
arity_stops name symbol xs same is = rw is (ap fault.Arity same)

-- the arguments of a symbol by its name
pub by_name : (size : Extent) (scope : Scope) (name symbol : List ℕ) (ts : NamedTermTrees) (sorts others : List Sort) → symbol ≡ name → sorts ≡ others
    → argument_faults size scope name 1 sorts ts ≡ argument_faults size scope symbol 1 others ts
by_name size scope name symbol ts sorts others same are = ap₂ (λ s ss. argument_faults size scope s 1 ss ts) (sym same) are

pub stops_at : (e : SortFault) (xs ys : List SortFault) → xs ≡ ys → Stops e ys → Stops e xs
stops_at e xs ys same stop = rw same stop

-- the tree of a known function at three terms
pub applied_tree : (o : Option Function) (f : Function) (ts : List TermTree) (x y z : TermTree) → o ≡ Some f → ts ≡ x ∷ y ∷ z ∷ [] → function_tree o ts ≡ applied f x y z
applied_tree o f ts x y z known are = ap₂ function_tree known are

-- ---- predicates

module _ (kind : Kind) (name : List ℕ) (o : Option Predicate) (p : Predicate) (known : o ≡ Some p) (count : ℕ) (in_arguments : List Sort → List SortFault) where
  said_as : predicate_faults kind name o count in_arguments
      ≡ cond (count == length (predicate_sorts p)) (fault_unless (is_said_of kind p) (fault.Kind name) ++ in_arguments (predicate_sorts p)) (fault.Arity name ∷ [])
  said_as = ap (λ q. predicate_faults kind name q count in_arguments) known

  -- a predicate with another number of arguments
  pub missaid : count ≢ length (predicate_sorts p) → predicate_faults kind name o count in_arguments ≡ fault.Arity name ∷ []
  missaid other =
      said_as ∙ ap (λ b. cond b (fault_unless (is_said_of kind p) (fault.Kind name) ++ in_arguments (predicate_sorts p)) (fault.Arity name ∷ [])) (other_number count (length (predicate_sorts p)) other)

  with_right_count : count ≡ length (predicate_sorts p) → predicate_faults kind name o count in_arguments ≡ fault_unless (is_said_of kind p) (fault.Kind name) ++ in_arguments (predicate_sorts p)
  with_right_count right =
      said_as ∙ ap (λ b. cond b (fault_unless (is_said_of kind p) (fault.Kind name) ++ in_arguments (predicate_sorts p)) (fault.Arity name ∷ [])) (eq-eqb count (length (predicate_sorts p)) right)

  -- a predicate that may not be said of rules of the kind
  pub wrong_kind : (symbol : List ℕ) → symbol ≡ name → count ≡ length (predicate_sorts p) → is_said_of kind p ≡ false → IsFirst (fault.Kind symbol) (predicate_faults kind name o count in_arguments)
  wrong_kind symbol same right not_said =
      rw (with_right_count right) (rw not_said (ap fault.Kind same))

  -- a predicate that may
  pub said : count ≡ length (predicate_sorts p) → is_said_of kind p ≡ true → predicate_faults kind name o count in_arguments ≡ in_arguments (predicate_sorts p)
  said right may = with_right_count right ∙ ap (λ b. fault_unless b (fault.Kind name) ++ in_arguments (predicate_sorts p)) may

-- what a visit of the arguments of a known predicate answers is what one of the predicate answers
pub said_visit : (size : Extent) (scope : Scope) (name symbol : List ℕ) (ts : NamedTermTrees) (o : Option Predicate) (p : Predicate)
    → o ≡ Some p → symbol ≡ name → argument_count ts ≡ length (predicate_sorts p) → is_said_of size.kind p ≡ true
    → (r : Result Atom SortFault)
    → IsVisit (argument_faults size scope symbol 1 (predicate_sorts p) ts) (λ a. atom_tree a ≡ predicate_tree (Some p) (resolved_terms size scope ts)) r
    → IsVisit (predicate_faults size.kind name o (argument_count ts) (λ sorts. argument_faults size scope name 1 sorts ts)) (λ a. atom_tree a ≡ predicate_tree o (resolved_terms size scope ts)) r
said_visit size scope name symbol ts o p known same right may r visit =
    let faults = said size.kind name o p known (argument_count ts) (λ sorts. argument_faults size scope name 1 sorts ts) right may
    ∙ ap (λ s. argument_faults size scope s 1 (predicate_sorts p) ts) (sym same) in
    rw (faults, known) visit
