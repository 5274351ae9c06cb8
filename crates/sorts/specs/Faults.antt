-- What is wrong with a sentence, in the order of visiting: a formula before its parts, and parts from left to right.
use Rattle.std.specs.Prelude.{ℕ, suc, ◌+◌, ◌==◌, Bool, false, List, [], ◌∷◌, ◌++◌, length, codes, if◌then◌else◌, Option, Some, None, option_map}
use Rattle.vocab.specs.declared.kinds.Kind.{Kind}
use Rattle.vocab.specs.declared.kinds.Sort.{Sort}
use Rattle.vocab.specs.declared.kinds.Sort.TheVariants.{Voter, Alt, Ballot}
use Rattle.vocab.specs.NamedTree as tree
use Rattle.vocab.specs.NamedTree.{NamedTermTree, NamedTermTrees, NamedTree}
use Rattle.vocab.specs.Size.{Extent}
use Rattle.vocab.specs.Sorted.{is_option_sort}
use Rattle.sorts.specs.declared.faults.SortFault.{SortFault}
use Rattle.sorts.specs.declared.faults.SortFault.TheVariants as fault
use Rattle.sorts.specs.declared.symbols.Function.{Function}
use Rattle.sorts.specs.declared.symbols.Predicate.{Predicate}
use Rattle.sorts.specs.Constants.{voter_text, alternative_text, ballot_constant_text, voter_value, alternative_value, ballot_value}
use Rattle.sorts.specs.Scope.{Scope, sort_in}
use Rattle.sorts.specs.Symbols.{function_of, predicate_of, function_sorts, predicate_sorts, given_sort, is_said_of}

-- a fault where a test fails
abbrev pub fault_unless : Bool → SortFault → List SortFault
fault_unless holds wrong = if holds then [] else wrong ∷ []

-- a fault where there is no value
abbrev pub where_none : {A : Type 0} → Option A → SortFault → List SortFault
where_none None wrong = wrong ∷ []
where_none (Some value) wrong = []

-- how many arguments there are
abbrev pub argument_count : NamedTermTrees → ℕ
argument_count tree.NoArguments = 0
argument_count (tree.Argument t ts) = suc (argument_count ts)

-- the sort of a term: that of the quantifier that binds a variable, that of a constant, or what a function gives
abbrev pub sort_of : Scope → NamedTermTree → Option Sort
sort_of scope (tree.Var name) = sort_in name scope
sort_of scope (tree.Voter i) = Some Voter
sort_of scope (tree.Alt x) = Some Alt
sort_of scope (tree.Ballot letters) = Some Ballot
sort_of scope (tree.Call name ts) = option_map given_sort (function_of name)

-- at a function: its name, the number of its arguments, and then what is wrong with them
abbrev pub function_faults : List ℕ → Option Function → ℕ → (List Sort → List SortFault) → List SortFault
function_faults name None count in_arguments = fault.Symbol name ∷ []
function_faults name (Some f) count in_arguments =
    if count == length (function_sorts f) then in_arguments (function_sorts f) else fault.Arity name ∷ []

-- at a predicate: its name, the number of its arguments, whether it may be said of rules of the kind, and then what is wrong with its arguments
abbrev pub predicate_faults : Kind → List ℕ → Option Predicate → ℕ → (List Sort → List SortFault) → List SortFault
predicate_faults kind name None count in_arguments = fault.Symbol name ∷ []
predicate_faults kind name (Some p) count in_arguments =
    if count == length (predicate_sorts p) then fault_unless (is_said_of kind p) (fault.Kind name) ++ in_arguments (predicate_sorts p) else fault.Arity name ∷ []

-- two sorts are there and are the same
abbrev pub are_same : Option Sort → Option Sort → Bool
are_same None t = false
are_same (Some s) t = is_option_sort s t

module _ (size : Extent) where
  abbrev mutual
    -- a variable is bound, a constant is a value of the size, and a call is of a function
    pub term_faults : Scope → NamedTermTree → List SortFault
    term_faults scope (tree.Var name) = where_none (sort_in name scope) (fault.Unbound name)
    term_faults scope (tree.Voter i) = where_none (voter_value size i) (fault.Constant (voter_text i))
    term_faults scope (tree.Alt x) = where_none (alternative_value size x) (fault.Constant (alternative_text x))
    term_faults scope (tree.Ballot letters) = where_none (ballot_value size letters) (fault.Constant (ballot_constant_text letters))
    term_faults scope (tree.Call name ts) = function_faults name (function_of name) (argument_count ts) (λ sorts. argument_faults scope name 1 sorts ts)

    -- each argument's own faults, and then its sort, with the symbol and the argument's place from 1
    pub argument_faults : Scope → List ℕ → ℕ → List Sort → NamedTermTrees → List SortFault
    argument_faults scope symbol place sorts tree.NoArguments = []
    argument_faults scope symbol place [] (tree.Argument t ts) = []
    argument_faults scope symbol place (sort ∷ sorts) (tree.Argument t ts) =
        term_faults scope t ++ fault_unless (is_option_sort sort (sort_of scope t)) (fault.Sort symbol place) ++ argument_faults scope symbol (place + 1) sorts ts

  -- the faults of a formula under some quantifiers; an equation's two terms are visited and then compared
  abbrev pub faults : Scope → NamedTree → List SortFault
  faults scope (tree.Pred name ts) = predicate_faults size.kind name (predicate_of name) (argument_count ts) (λ sorts. argument_faults scope name 1 sorts ts)
  faults scope (tree.Equal s t) = term_faults scope s ++ term_faults scope t ++ fault_unless (are_same (sort_of scope s) (sort_of scope t)) (fault.Sort (codes "=") 2)
  faults scope (tree.Not f) = faults scope f
  faults scope (tree.Both f g) = faults scope f ++ faults scope g
  faults scope (tree.Either f g) = faults scope f ++ faults scope g
  faults scope (tree.Implies f g) = faults scope f ++ faults scope g
  faults scope (tree.Same f g) = faults scope f ++ faults scope g
  faults scope (tree.All name s f) = faults ((name, s) ∷ scope) f
  faults scope (tree.Exists name s f) = faults ((name, s) ∷ scope) f
