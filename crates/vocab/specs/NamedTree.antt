-- Sentences as they are written, as trees, without the places in memory where their parts lie.
use Rattle.std.specs.Prelude.{ℕ, List}
use Rattle.vocab.specs.declared.kinds.Sort.{Sort}

mutual
  -- a variable, a voter from 1, an alternative from 0, a ballot by its letters, or a function at its arguments
  pub data NamedTermTree : Type 0 where
    Var : (name : List ℕ) → NamedTermTree
    Voter : (number : ℕ) → NamedTermTree
    Alt : (number : ℕ) → NamedTermTree
    Ballot : (letters : List ℕ) → NamedTermTree
    Call : (name : List ℕ) → NamedTermTrees → NamedTermTree

  -- the arguments of a function or of a predicate
  pub data NamedTermTrees : Type 0 where
    NoArguments : NamedTermTrees
    Argument : NamedTermTree → NamedTermTrees → NamedTermTrees

-- a predicate at its arguments, an equation, the connectives, and the two quantifiers with a name and a sort
pub data NamedTree : Type 0 where
  Pred : (name : List ℕ) → NamedTermTrees → NamedTree
  Equal : (s t : NamedTermTree) → NamedTree
  Not : NamedTree → NamedTree
  Both : NamedTree → NamedTree → NamedTree
  Either : NamedTree → NamedTree → NamedTree
  Implies : NamedTree → NamedTree → NamedTree
  Same : NamedTree → NamedTree → NamedTree
  All : (name : List ℕ) → Sort → NamedTree → NamedTree
  Exists : (name : List ℕ) → Sort → NamedTree → NamedTree
