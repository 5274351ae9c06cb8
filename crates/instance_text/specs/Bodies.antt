-- The body of an instance as a formula of the sentence language. The values of voters, alternatives and ballots stand in it
-- as constants; a profile, of which the language has no constant, is named by its variable.
use Rattle.std.specs.Prelude.{ℕ, ◌+◌, Bool, ◌&&◌, nat_lt, List, [], ◌∷◌, ◌++◌, length, slice_get, codes, decimal, if◌then◌else◌, Option, Some, None}
use Rattle.std.specs.Option.{unwrap_or, option_or}
use Rattle.vocab.specs.declared.kinds.Sort.{Sort}
use Rattle.vocab.specs.declared.kinds.Sort.TheVariants.{Voter, Alt, Ballot, Profile}
use Rattle.vocab.specs.Formula.{prefix_of, body_of}
use Rattle.vocab.specs.NamedTree as tree
use Rattle.vocab.specs.NamedTree.{NamedTermTree, NamedTermTrees, NamedTree}
use Rattle.vocab.specs.Size.{Extent, sort_count}
use Rattle.vocab.specs.Tree.{TermTree, AtomTree, Tree, Var, Const, With, SwapVoters, SwapAlts, Swap, Equal, Prefers, Better, Casts, Majority, WinsAt, Ranks, Leaf, Not, Both, Either, Implies, Same, All, Exists}
use Rattle.meaning.specs.Texts.{ballot_text, profile_text}

-- the letter of the variables of a sort
abbrev pub sort_letter : Sort → ℕ
sort_letter Voter = 105
sort_letter Alt = 120
sort_letter Ballot = 98
sort_letter Profile = 112

-- a variable: the letter of its sort, and how many quantifiers there are up to its own
abbrev pub variable_name : Sort → (place : ℕ) → List ℕ
variable_name s place = sort_letter s ∷ decimal place

-- some terms as arguments
abbrev pub two : NamedTermTree → NamedTermTree → NamedTermTrees
two s t = tree.Argument s (tree.Argument t tree.NoArguments)

abbrev pub three : NamedTermTree → NamedTermTree → NamedTermTree → NamedTermTrees
three s t u = tree.Argument s (two t u)

abbrev pub four : NamedTermTree → NamedTermTree → NamedTermTree → NamedTermTree → NamedTermTrees
four s t u v = tree.Argument s (three t u v)

-- the sorts of the variables are given by level; one that no quantifier binds counts as a profile
abbrev pub sort_at : List Sort → (level : ℕ) → Sort
sort_at sorts level = unwrap_or (slice_get sorts level) Profile

-- the sort of a term, but for a constant, which may be a value of several
abbrev pub known_sort : List Sort → TermTree → Option Sort
known_sort sorts (Var level) = Some (sort_at sorts level)
known_sort sorts (Const c) = None
known_sort sorts (With p i b) = Some Profile
known_sort sorts (SwapVoters p i j) = Some Profile
known_sort sorts (SwapAlts p x y) = Some Profile
known_sort sorts (Swap x y z) = Some Alt

module _ (size : Extent) where
  -- the letters of a ballot or of a profile of the size
  abbrev pub ballot_letters : ℕ → List ℕ
  ballot_letters b = if nat_lt b (sort_count size Ballot) then ballot_text size b else []

  abbrev pub profile_letters : ℕ → List ℕ
  profile_letters p = if nat_lt p (sort_count size Profile) then profile_text size p else []

  -- a value as a constant. A sentence has none of a profile, which would stand by its ballots
  abbrev pub constant : Sort → ℕ → NamedTermTree
  constant Voter i = tree.Voter (i + 1)
  constant Alt x = tree.Alt x
  constant Ballot b = tree.Ballot (ballot_letters b)
  constant Profile p = tree.Var (profile_letters p)

  -- the sort of constants of which no more is known: the first whose values both are
  abbrev pub constants_sort : TermTree → TermTree → Sort
  constants_sort (Const c) (Const d) =
      if nat_lt c (sort_count size Alt) && nat_lt d (sort_count size Alt) then Alt
      else if nat_lt c (sort_count size Voter) && nat_lt d (sort_count size Voter) then Voter
      else Ballot
  constants_sort s t = Ballot

  -- the sort of the two terms of an equation
  abbrev pub common_sort : List Sort → TermTree → TermTree → Sort
  common_sort sorts s t = unwrap_or (option_or (known_sort sorts s) (known_sort sorts t)) (constants_sort s t)

  -- a variable of a sort at a level, with its value if it has one
  abbrev pub written : Sort → (level : ℕ) → Option ℕ → NamedTermTree
  written s level None = tree.Var (variable_name s (level + 1))
  written Voter level (Some i) = constant Voter i
  written Alt level (Some x) = constant Alt x
  written Ballot level (Some b) = constant Ballot b
  written Profile level (Some p) = tree.Var (variable_name Profile (level + 1))

  -- the outermost variables have these values
  module _ (values : List ℕ) where
    -- a term of a sort
    abbrev pub term : List Sort → Sort → TermTree → NamedTermTree
    term sorts s (Var level) = written (sort_at sorts level) level (slice_get values level)
    term sorts s (Const c) = constant s c
    term sorts s (With p i b) = tree.Call (codes "with") (three (term sorts Profile p) (term sorts Voter i) (term sorts Ballot b))
    term sorts s (SwapVoters p i j) = tree.Call (codes "swap_voters") (three (term sorts Profile p) (term sorts Voter i) (term sorts Voter j))
    term sorts s (SwapAlts p x y) = tree.Call (codes "swap_alts") (three (term sorts Profile p) (term sorts Alt x) (term sorts Alt y))
    term sorts s (Swap x y z) = tree.Call (codes "swap") (three (term sorts Alt x) (term sorts Alt y) (term sorts Alt z))

    -- an atom
    abbrev pub atom : List Sort → AtomTree → NamedTree
    atom sorts (Equal s t) = tree.Equal (term sorts (common_sort sorts s t) s) (term sorts (common_sort sorts s t) t)
    atom sorts (Prefers i x y p) = tree.Pred (codes "prefers") (four (term sorts Voter i) (term sorts Alt x) (term sorts Alt y) (term sorts Profile p))
    atom sorts (Better b x y) = tree.Pred (codes "better") (three (term sorts Ballot b) (term sorts Alt x) (term sorts Alt y))
    atom sorts (Casts i b p) = tree.Pred (codes "casts") (three (term sorts Voter i) (term sorts Ballot b) (term sorts Profile p))
    atom sorts (Majority x y p) = tree.Pred (codes "majority") (three (term sorts Alt x) (term sorts Alt y) (term sorts Profile p))
    atom sorts (WinsAt x p) = tree.Pred (codes "wins") (two (term sorts Alt x) (term sorts Profile p))
    atom sorts (Ranks x y p) = tree.Pred (codes "ranks") (three (term sorts Alt x) (term sorts Alt y) (term sorts Profile p))

    -- a formula, in which each quantifier names its variable
    abbrev pub formula : List Sort → Tree → NamedTree
    formula sorts (Leaf a) = atom sorts a
    formula sorts (Not f) = tree.Not (formula sorts f)
    formula sorts (Both f g) = tree.Both (formula sorts f) (formula sorts g)
    formula sorts (Either f g) = tree.Either (formula sorts f) (formula sorts g)
    formula sorts (Implies f g) = tree.Implies (formula sorts f) (formula sorts g)
    formula sorts (Same f g) = tree.Same (formula sorts f) (formula sorts g)
    formula sorts (All s f) = tree.All (variable_name s (length sorts + 1)) s (formula (sorts ++ s ∷ []) f)
    formula sorts (Exists s f) = tree.Exists (variable_name s (length sorts + 1)) s (formula (sorts ++ s ∷ []) f)

  -- the body of a sentence, with these values of its leading universals
  abbrev pub named_body : Tree → (values : List ℕ) → NamedTree
  named_body sentence values = formula values (prefix_of sentence) (body_of sentence)

  -- a whole sentence
  abbrev pub named_sentence : Tree → NamedTree
  named_sentence sentence = formula [] [] sentence
