-- How deep a sentence is, and how many quantifiers stand on one path.
use Rattle.std.specs.Prelude.{ℕ, suc, max}
use Rattle.vocab.specs.NamedTree as tree
use Rattle.vocab.specs.NamedTree.{NamedTermTree, NamedTermTrees, NamedTree}

-- a variable or a constant has depth 1, and what has parts one more than the deepest
abbrev mutual
  pub term_depth : NamedTermTree → ℕ
  term_depth (tree.Var n) = 1
  term_depth (tree.Voter n) = 1
  term_depth (tree.Alt n) = 1
  term_depth (tree.Ballot n) = 1
  term_depth (tree.Call n ts) = suc (terms_depth ts)

  pub terms_depth : NamedTermTrees → ℕ
  terms_depth tree.NoArguments = 0
  terms_depth (tree.Argument t ts) = max (term_depth t) (terms_depth ts)

abbrev pub named_depth : NamedTree → ℕ
named_depth (tree.Pred n ts) = suc (terms_depth ts)
named_depth (tree.Equal s t) = suc (max (term_depth s) (term_depth t))
named_depth (tree.Not f) = suc (named_depth f)
named_depth (tree.Both f g) = suc (max (named_depth f) (named_depth g))
named_depth (tree.Either f g) = suc (max (named_depth f) (named_depth g))
named_depth (tree.Implies f g) = suc (max (named_depth f) (named_depth g))
named_depth (tree.Same f g) = suc (max (named_depth f) (named_depth g))
named_depth (tree.All n s f) = suc (named_depth f)
named_depth (tree.Exists n s f) = suc (named_depth f)

-- the most quantifiers on one path
abbrev pub quantifiers : NamedTree → ℕ
quantifiers (tree.Pred n ts) = 0
quantifiers (tree.Equal s t) = 0
quantifiers (tree.Not f) = quantifiers f
quantifiers (tree.Both f g) = max (quantifiers f) (quantifiers g)
quantifiers (tree.Either f g) = max (quantifiers f) (quantifiers g)
quantifiers (tree.Implies f g) = max (quantifiers f) (quantifiers g)
quantifiers (tree.Same f g) = max (quantifiers f) (quantifiers g)
quantifiers (tree.All n s f) = suc (quantifiers f)
quantifiers (tree.Exists n s f) = suc (quantifiers f)
