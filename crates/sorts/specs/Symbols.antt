-- The symbols of sentences, each with its name and the sorts of its arguments.
use Rattle.std.specs.Prelude.{ℕ, Bool, true, not, List, [], ◌∷◌, Option, codes}
use Rattle.std.specs.Map.{lookup}
use Rattle.std.specs.Str.{bytes_eq}
use Rattle.vocab.specs.declared.kinds.Kind.{Kind}
use Rattle.vocab.specs.declared.kinds.Sort.{Sort}
use Rattle.vocab.specs.declared.kinds.Sort.TheVariants.{Voter, Alt, Ballot, Profile}
use Rattle.vocab.specs.Sorted.{has_winners}
use Rattle.sorts.specs.declared.symbols.Function.{Function}
use Rattle.sorts.specs.declared.symbols.Function.TheVariants.{With, SwapVoters, SwapAlts, Swap}
use Rattle.sorts.specs.declared.symbols.Predicate.{Predicate}
use Rattle.sorts.specs.declared.symbols.Predicate.TheVariants.{Prefers, Better, Casts, Majority, Wins, Ranks}

-- the functions under their names
abbrev pub functions : List (List ℕ × Function)
functions = (codes "with", With) ∷ (codes "swap_voters", SwapVoters) ∷ (codes "swap_alts", SwapAlts) ∷ (codes "swap", Swap) ∷ []

-- the predicates under their names
abbrev pub predicates : List (List ℕ × Predicate)
predicates =
    (codes "prefers", Prefers) ∷ (codes "better", Better) ∷ (codes "casts", Casts) ∷ (codes "majority", Majority) ∷ (codes "wins", Wins) ∷ (codes "ranks", Ranks) ∷ []

-- the function of a name
unfoldable pub function_of : List ℕ → Option Function
function_of name = lookup (bytes_eq name) functions

-- the predicate of a name
unfoldable pub predicate_of : List ℕ → Option Predicate
predicate_of name = lookup (bytes_eq name) predicates

-- the sorts of the arguments of a function
abbrev pub function_sorts : Function → List Sort
function_sorts With = Profile ∷ Voter ∷ Ballot ∷ []
function_sorts SwapVoters = Profile ∷ Voter ∷ Voter ∷ []
function_sorts SwapAlts = Profile ∷ Alt ∷ Alt ∷ []
function_sorts Swap = Alt ∷ Alt ∷ Alt ∷ []

-- the sort of what a function gives
abbrev pub given_sort : Function → Sort
given_sort With = Profile
given_sort SwapVoters = Profile
given_sort SwapAlts = Profile
given_sort Swap = Alt

-- the sorts of the arguments of a predicate
abbrev pub predicate_sorts : Predicate → List Sort
predicate_sorts Prefers = Voter ∷ Alt ∷ Alt ∷ Profile ∷ []
predicate_sorts Better = Ballot ∷ Alt ∷ Alt ∷ []
predicate_sorts Casts = Voter ∷ Ballot ∷ Profile ∷ []
predicate_sorts Majority = Alt ∷ Alt ∷ Profile ∷ []
predicate_sorts Wins = Alt ∷ Profile ∷ []
predicate_sorts Ranks = Alt ∷ Alt ∷ Profile ∷ []

-- a predicate may be said of rules of a kind: `wins` of those whose outcome has winners, `ranks` of the others, and the rest of all
abbrev pub is_said_of : Kind → Predicate → Bool
is_said_of kind Prefers = true
is_said_of kind Better = true
is_said_of kind Casts = true
is_said_of kind Majority = true
is_said_of kind Wins = has_winners kind
is_said_of kind Ranks = not (has_winners kind)
