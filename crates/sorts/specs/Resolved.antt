-- The tree of a sentence without names: a variable is the number of quantifiers outside its own, and a constant its number.
-- A sentence that has faults has a tree too, which means nothing.
use Rattle.std.specs.Prelude.{List, [], ◌∷◌, Option, Some, None}
use Rattle.std.specs.Option.{unwrap_or}
use Rattle.vocab.specs.NamedTree as tree
use Rattle.vocab.specs.NamedTree.{NamedTermTree, NamedTermTrees, NamedTree}
use Rattle.vocab.specs.Size.{Extent}
use Rattle.vocab.specs.Tree as plain
use Rattle.vocab.specs.Tree.{TermTree, AtomTree, Tree}
use Rattle.sorts.specs.declared.symbols.Function.{Function}
use Rattle.sorts.specs.declared.symbols.Function.TheVariants.{With, SwapVoters, SwapAlts, Swap}
use Rattle.sorts.specs.declared.symbols.Predicate.{Predicate}
use Rattle.sorts.specs.declared.symbols.Predicate.TheVariants.{Prefers, Better, Casts, Majority, Wins, Ranks}
use Rattle.sorts.specs.Constants.{voter_value, alternative_value, ballot_value}
use Rattle.sorts.specs.Scope.{Scope, level_in}
use Rattle.sorts.specs.Symbols.{function_of, predicate_of}

-- a function at its three terms
abbrev pub applied : Function → TermTree → TermTree → TermTree → TermTree
applied With p i b = plain.With p i b
applied SwapVoters p i j = plain.SwapVoters p i j
applied SwapAlts p x y = plain.SwapAlts p x y
applied Swap x y z = plain.Swap x y z

-- what stands for a call that has another number of terms, or no function
abbrev pub no_term : TermTree
no_term = plain.Const 0

-- the call of a function at some terms
abbrev pub function_tree : Option Function → List TermTree → TermTree
function_tree None ts = no_term
function_tree (Some f) (x ∷ y ∷ z ∷ []) = applied f x y z
function_tree (Some f) _ = no_term

-- what stands for an atom that has another number of terms, or no predicate
abbrev pub no_atom : AtomTree
no_atom = plain.Equal no_term no_term

-- a predicate at two terms, at three and at four
abbrev pub said_of_two : Predicate → TermTree → TermTree → AtomTree
said_of_two Wins x p = plain.WinsAt x p
said_of_two _ x p = no_atom

abbrev pub said_of_three : Predicate → TermTree → TermTree → TermTree → AtomTree
said_of_three Better b x y = plain.Better b x y
said_of_three Casts i b p = plain.Casts i b p
said_of_three Majority x y p = plain.Majority x y p
said_of_three Ranks x y p = plain.Ranks x y p
said_of_three _ x y p = no_atom

abbrev pub said_of_four : Predicate → TermTree → TermTree → TermTree → TermTree → AtomTree
said_of_four Prefers i x y p = plain.Prefers i x y p
said_of_four _ i x y p = no_atom

-- a predicate at some terms
abbrev pub predicate_tree : Option Predicate → List TermTree → AtomTree
predicate_tree None ts = no_atom
predicate_tree (Some p) (x ∷ y ∷ []) = said_of_two p x y
predicate_tree (Some p) (x ∷ y ∷ z ∷ []) = said_of_three p x y z
predicate_tree (Some p) (x ∷ y ∷ z ∷ w ∷ []) = said_of_four p x y z w
predicate_tree (Some p) _ = no_atom

module _ (size : Extent) where
  abbrev mutual
    -- a term under some quantifiers
    pub resolved_term : Scope → NamedTermTree → TermTree
    resolved_term scope (tree.Var name) = plain.Var (level_in name scope)
    resolved_term scope (tree.Voter i) = plain.Const (unwrap_or (voter_value size i) 0)
    resolved_term scope (tree.Alt x) = plain.Const (unwrap_or (alternative_value size x) 0)
    resolved_term scope (tree.Ballot letters) = plain.Const (unwrap_or (ballot_value size letters) 0)
    resolved_term scope (tree.Call name ts) = function_tree (function_of name) (resolved_terms scope ts)

    -- the arguments of a call
    pub resolved_terms : Scope → NamedTermTrees → List TermTree
    resolved_terms scope tree.NoArguments = []
    resolved_terms scope (tree.Argument t ts) = resolved_term scope t ∷ resolved_terms scope ts

  -- a formula under some quantifiers
  abbrev pub resolved : Scope → NamedTree → Tree
  resolved scope (tree.Pred name ts) = plain.Leaf (predicate_tree (predicate_of name) (resolved_terms scope ts))
  resolved scope (tree.Equal s t) = plain.Leaf (plain.Equal (resolved_term scope s) (resolved_term scope t))
  resolved scope (tree.Not f) = plain.Not (resolved scope f)
  resolved scope (tree.Both f g) = plain.Both (resolved scope f) (resolved scope g)
  resolved scope (tree.Either f g) = plain.Either (resolved scope f) (resolved scope g)
  resolved scope (tree.Implies f g) = plain.Implies (resolved scope f) (resolved scope g)
  resolved scope (tree.Same f g) = plain.Same (resolved scope f) (resolved scope g)
  resolved scope (tree.All name s f) = plain.All s (resolved ((name, s) ∷ scope) f)
  resolved scope (tree.Exists name s f) = plain.Exists s (resolved ((name, s) ∷ scope) f)
