-- When a sentence with names is true of a rule: Tarski's recursion over the sentence as it is written, under an assignment of values to names.
use Rattle.std.specs.Prelude.{ℕ, Bool, false, not, ◌&&◌, ◌||◌, ◌==◌, List, [], ◌∷◌, slice_index, Option, Some}
use Rattle.std.specs.Bool.{beq}
use Rattle.std.specs.List.{list_all, list_any}
use Rattle.std.specs.Map.{lookup}
use Rattle.std.specs.Option.{unwrap_or}
use Rattle.std.specs.Str.{bytes_eq}
use Rattle.vocab.specs.NamedTree as tree
use Rattle.vocab.specs.NamedTree.{NamedTermTree, NamedTermTrees, NamedTree}
use Rattle.vocab.specs.Size.{Extent, sort_count}
use Rattle.meaning.specs.Space.{below, ranking, is_above, prefers, better, casts, majority, exchanged, with_ballot, with_voters_swapped, with_alts_swapped}
use Rattle.meaning.specs.Truth.{wins_in}
use Rattle.sorts.specs.declared.symbols.Function.{Function}
use Rattle.sorts.specs.declared.symbols.Function.TheVariants.{With, SwapVoters, SwapAlts, Swap}
use Rattle.sorts.specs.declared.symbols.Predicate.{Predicate}
use Rattle.sorts.specs.declared.symbols.Predicate.TheVariants.{Prefers, Better, Casts, Majority, Wins, Ranks}
use Rattle.sorts.specs.Constants.{voter_value, alternative_value, ballot_value}
use Rattle.sorts.specs.Symbols.{function_of, predicate_of}

-- names with values; the first of a name counts
abbrev pub Assignment : Type 0
Assignment = List (List ℕ × ℕ)

-- the value of a name
abbrev pub value_named : List ℕ → Assignment → ℕ
value_named name assignment = unwrap_or (lookup (bytes_eq name) assignment) 0

module _ (size : Extent) where
  -- what a function gives at some values
  abbrev pub function_value : Option Function → List ℕ → ℕ
  function_value (Some With) (p ∷ i ∷ b ∷ []) = with_ballot size p i b
  function_value (Some SwapVoters) (p ∷ i ∷ j ∷ []) = with_voters_swapped size p i j
  function_value (Some SwapAlts) (p ∷ x ∷ y ∷ []) = with_alts_swapped size p x y
  function_value (Some Swap) (x ∷ y ∷ z ∷ []) = exchanged x y z
  function_value _ _ = 0

  -- whether a predicate holds of some values, of a rule
  abbrev pub is_said_truly : List ℕ → Option Predicate → List ℕ → Bool
  is_said_truly table (Some Prefers) (i ∷ x ∷ y ∷ p ∷ []) = prefers size i x y p
  is_said_truly table (Some Better) (b ∷ x ∷ y ∷ []) = better size b x y
  is_said_truly table (Some Casts) (i ∷ b ∷ p ∷ []) = casts size i b p
  is_said_truly table (Some Majority) (x ∷ y ∷ p ∷ []) = majority size x y p
  is_said_truly table (Some Wins) (x ∷ p ∷ []) = wins_in size.kind (slice_index table p) x
  is_said_truly table (Some Ranks) (x ∷ y ∷ p ∷ []) = is_above (ranking size.alternatives (slice_index table p)) x y
  is_said_truly table _ _ = false

  abbrev mutual
    -- the value of a term under an assignment
    pub named_value : Assignment → NamedTermTree → ℕ
    named_value assignment (tree.Var name) = value_named name assignment
    named_value assignment (tree.Voter i) = unwrap_or (voter_value size i) 0
    named_value assignment (tree.Alt x) = unwrap_or (alternative_value size x) 0
    named_value assignment (tree.Ballot letters) = unwrap_or (ballot_value size letters) 0
    named_value assignment (tree.Call name ts) = function_value (function_of name) (named_values assignment ts)

    -- the values of the arguments of a call
    pub named_values : Assignment → NamedTermTrees → List ℕ
    named_values assignment tree.NoArguments = []
    named_values assignment (tree.Argument t ts) = named_value assignment t ∷ named_values assignment ts

  -- a sentence is true of a rule under an assignment
  abbrev pub is_named_true : List ℕ → Assignment → NamedTree → Bool
  is_named_true table assignment (tree.Pred name ts) = is_said_truly table (predicate_of name) (named_values assignment ts)
  is_named_true table assignment (tree.Equal s t) = named_value assignment s == named_value assignment t
  is_named_true table assignment (tree.Not f) = not (is_named_true table assignment f)
  is_named_true table assignment (tree.Both f g) = is_named_true table assignment f && is_named_true table assignment g
  is_named_true table assignment (tree.Either f g) = is_named_true table assignment f || is_named_true table assignment g
  is_named_true table assignment (tree.Implies f g) = not (is_named_true table assignment f) || is_named_true table assignment g
  is_named_true table assignment (tree.Same f g) = beq (is_named_true table assignment f) (is_named_true table assignment g)
  is_named_true table assignment (tree.All name s f) = list_all (λ v. is_named_true table ((name, v) ∷ assignment) f) (below (sort_count size s))
  is_named_true table assignment (tree.Exists name s f) = list_any (λ v. is_named_true table ((name, v) ∷ assignment) f) (below (sort_count size s))
