-- The arguments of a symbol, one after the other.
use Rattle.std.proofs.Common.{◌≡◌, refl, sym, ◌∙◌, ap, ap₂, ℕ, zero, suc, ◌+◌, List, [], ◌∷◌, ◌++◌, length, map, drop, arith, Some}
use Rattle.std.specs.Prelude.{◌≢◌, slice_get}
use Rattle.vocab.specs.declared.kinds.Sort.{Sort}
use Rattle.vocab.specs.declared.named.NamedTerm.{NamedTerm}
use Rattle.vocab.specs.declared.named.Terms.{Terms}
use Rattle.vocab.specs.NamedTree as tree
use Rattle.vocab.specs.NamedTree.{NamedTermTrees}
use Rattle.vocab.specs.NamedView.{named_term_tree, named_terms_tree, arguments_of}
use Rattle.vocab.specs.Size.{Extent}
use Rattle.vocab.specs.Sorted.{is_option_sort}
use Rattle.vocab.specs.Terms.{terms_of}
use Rattle.vocab.specs.Tree.{TermTree}
use Rattle.vocab.proofs.TermLemmas.{named_terms_tree-items}
use Rattle.sorts.specs.declared.faults.SortFault.{SortFault}
use Rattle.sorts.specs.declared.faults.SortFault.TheVariants as fault
use Rattle.sorts.specs.Faults.{fault_unless, argument_count, sort_of, term_faults, argument_faults}
use Rattle.sorts.specs.Resolved.{resolved_term, resolved_terms}
use Rattle.sorts.specs.Scope.{Scope}
use Rattle.sorts.specs.Visits.{IsFirst}

-- ---- first faults

-- it is the first of some faults, if there is memory
abbrev pub Stops : SortFault → List SortFault → Type 0
Stops e xs = e ≢ fault.NoMemory → IsFirst e xs

first_in_front : (e : SortFault) (xs ys : List SortFault) → IsFirst e xs → IsFirst e (xs ++ ys)
first_in_front e [] ys h = absurd h
first_in_front e (x ∷ xs) ys h = h

-- the first fault of what comes first is the first of all
pub stops_first : (e : SortFault) (xs ys : List SortFault) → Stops e xs → Stops e (xs ++ ys)
stops_first e xs ys h memory = first_in_front e xs ys (h memory)

-- where nothing is wrong with what comes first, the first fault of the rest
pub stops_next : (e : SortFault) (xs ys : List SortFault) → xs ≡ [] → Stops e ys → Stops e (xs ++ ys)
stops_next e xs ys none h = rw none h

-- nothing is wrong with either
pub none_of_both : {xs ys : List SortFault} → xs ≡ [] → ys ≡ [] → xs ++ ys ≡ []
none_of_both a b = ap₂ (λ xs ys. xs ++ ys) a b

-- ---- the list of arguments

-- the arguments from a place on
abbrev pub from : List NamedTerm → ℕ → NamedTermTrees
from xs i = arguments_of (map named_term_tree (drop i xs))

pub from_start : (ts : Terms) → named_terms_tree ts ≡ from (terms_of ts) 0
from_start ts = named_terms_tree-items ts

next_item : (xs : List NamedTerm) (i : ℕ) (x : NamedTerm) → slice_get xs i ≡ Some x → drop i xs ≡ x ∷ drop (suc i) xs
next_item [] i x h = absurd cc
next_item (y ∷ xs) zero x h = let e : y ≡ x = cc in ap (λ z. z ∷ xs) e
next_item (y ∷ xs) (suc i) x h = next_item xs i x h

pub from_step : (xs : List NamedTerm) (i : ℕ) (x : NamedTerm) → slice_get xs i ≡ Some x → from xs i ≡ tree.Argument (named_term_tree x) (from xs (suc i))
from_step xs i x h = ap (λ l. arguments_of (map named_term_tree l)) (next_item xs i x h)

drop_all : (xs : List NamedTerm) (n : ℕ) → length xs ≡ n → drop n xs ≡ []
drop_all [] zero h = refl
drop_all [] (suc n) h = refl
drop_all (x ∷ xs) zero h = absurd (omega (arith, h))
drop_all (x ∷ xs) (suc n) h = drop_all xs n (omega (arith, h))

pub from_end : (xs : List NamedTerm) (n : ℕ) → length xs ≡ n → from xs n ≡ tree.NoArguments
from_end xs n h = ap (λ l. arguments_of (map named_term_tree l)) (drop_all xs n h)

count_items : (xs : List NamedTerm) → argument_count (arguments_of (map named_term_tree xs)) ≡ length xs
count_items [] = refl
count_items (x ∷ xs) = let inner = count_items xs in omega (arith, inner)

pub count_of_terms : (ts : Terms) → argument_count (named_terms_tree ts) ≡ length (terms_of ts)
count_of_terms ts = ap argument_count (named_terms_tree-items ts) ∙ count_items (terms_of ts)

-- ---- what is wrong with them

module _ (size : Extent) (scope : Scope) (symbol : List ℕ) where
  -- what is wrong with one argument, at a place
  abbrev pub one_argument : ℕ → Sort → NamedTerm → List SortFault
  one_argument place sort x = term_faults size scope (named_term_tree x) ++ fault_unless (is_option_sort sort (sort_of scope (named_term_tree x))) (fault.Sort symbol place)

  -- what is wrong with the arguments from one on
  abbrev pub later_arguments : List NamedTerm → ℕ → ℕ → List Sort → List SortFault
  later_arguments xs i place sorts = argument_faults size scope symbol place sorts (from xs i)

  step : (xs : List NamedTerm) (i place : ℕ) (sort : Sort) (sorts : List Sort) (x : NamedTerm) → slice_get xs i ≡ Some x
      → later_arguments xs i place (sort ∷ sorts) ≡ one_argument place sort x ++ later_arguments xs (suc i) (place + 1) sorts
  step xs i place sort sorts x h = ap (argument_faults size scope symbol place (sort ∷ sorts)) (from_step xs i x h)

  pub argument_stops : (e : SortFault) (xs : List NamedTerm) (i place : ℕ) (sort : Sort) (sorts : List Sort) (x : NamedTerm) → slice_get xs i ≡ Some x
      → Stops e (one_argument place sort x) → Stops e (later_arguments xs i place (sort ∷ sorts))
  argument_stops e xs i place sort sorts x h stop = rw (step xs i place sort sorts x h) (stops_first _ _ _ stop)

  pub later_stops : (e : SortFault) (xs : List NamedTerm) (i place : ℕ) (sort : Sort) (sorts : List Sort) (x : NamedTerm) → slice_get xs i ≡ Some x
      → one_argument place sort x ≡ [] → Stops e (later_arguments xs (suc i) (place + 1) sorts) → Stops e (later_arguments xs i place (sort ∷ sorts))
  later_stops e xs i place sort sorts x h none stop = rw (step xs i place sort sorts x h) (stops_next _ _ _ none stop)

  pub one_more_right : (xs : List NamedTerm) (i place : ℕ) (sort : Sort) (sorts : List Sort) (x : NamedTerm) → slice_get xs i ≡ Some x
      → one_argument place sort x ≡ [] → later_arguments xs (suc i) (place + 1) sorts ≡ [] → later_arguments xs i place (sort ∷ sorts) ≡ []
  one_more_right xs i place sort sorts x h none rest = step xs i place sort sorts x h ∙ none_of_both none rest

  no_sorts : (place : ℕ) (ts : NamedTermTrees) → argument_faults size scope symbol place [] ts ≡ []
  no_sorts place tree.NoArguments = refl
  no_sorts place (tree.Argument t ts) = refl

  pub no_more : (xs : List NamedTerm) (i place : ℕ) → later_arguments xs i place [] ≡ []
  no_more xs i place = no_sorts place (from xs i)

-- ---- what they resolve to

module _ (size : Extent) (scope : Scope) where
  pub resolved_step : (xs : List NamedTerm) (i : ℕ) (x : NamedTerm) (t : TermTree) (ts : List TermTree) → slice_get xs i ≡ Some x
      → t ≡ resolved_term size scope (named_term_tree x) → resolved_terms size scope (from xs (suc i)) ≡ ts → resolved_terms size scope (from xs i) ≡ t ∷ ts
  resolved_step xs i x t ts h is rest = ap (resolved_terms size scope) (from_step xs i x h) ∙ ap₂ (λ y ys. y ∷ ys) (sym is) rest

  pub resolved_end : (xs : List NamedTerm) (n : ℕ) → length xs ≡ n → resolved_terms size scope (from xs n) ≡ []
  resolved_end xs n h = ap (resolved_terms size scope) (from_end xs n h)
