-- The canonical text of a tree.
use Rattle.std.specs.Prelude.{◌+◌, ◌%◌, List, [], ◌∷◌, ◌++◌, codes, decimal, ℕ}
use Rattle.vocab.specs.NamedTree as tree
use Rattle.vocab.specs.NamedTree.{NamedTermTree, NamedTermTrees, NamedTree}
use Rattle.syntax.specs.Grammar.{word_of_sort}

-- the canonical text of a term
abbrev mutual
  pub term_text : NamedTermTree → List ℕ
  term_text (tree.Var n) = n
  term_text (tree.Voter n) = codes "#" ++ decimal n
  term_text (tree.Alt a) = codes "@" ++ ((97 + a) % 256) ∷ []
  term_text (tree.Ballot b) = codes "<" ++ b ++ codes ">"
  term_text (tree.Call n ts) = n ++ codes "(" ++ list_text ts ++ codes ")"

  pub list_text : NamedTermTrees → List ℕ
  list_text tree.NoArguments = []
  list_text (tree.Argument t ts) = term_text t ++ more_text ts

  pub more_text : NamedTermTrees → List ℕ
  more_text tree.NoArguments = []
  more_text (tree.Argument t ts) = codes ", " ++ term_text t ++ more_text ts

-- the canonical text of a sentence
abbrev pub canonical_text : NamedTree → List ℕ
canonical_text (tree.Pred n ts) = n ++ codes "(" ++ list_text ts ++ codes ")"
canonical_text (tree.Equal s t) = term_text s ++ codes " = " ++ term_text t
canonical_text (tree.Not f) = codes "!" ++ canonical_text f
canonical_text (tree.Both f g) = codes "(" ++ canonical_text f ++ codes " & " ++ canonical_text g ++ codes ")"
canonical_text (tree.Either f g) = codes "(" ++ canonical_text f ++ codes " | " ++ canonical_text g ++ codes ")"
canonical_text (tree.Implies f g) = codes "(" ++ canonical_text f ++ codes " -> " ++ canonical_text g ++ codes ")"
canonical_text (tree.Same f g) = codes "(" ++ canonical_text f ++ codes " <-> " ++ canonical_text g ++ codes ")"
canonical_text (tree.All n s f) = codes "all " ++ n ++ codes ": " ++ word_of_sort s ++ codes ". " ++ canonical_text f
canonical_text (tree.Exists n s f) = codes "some " ++ n ++ codes ": " ++ word_of_sort s ++ codes ". " ++ canonical_text f
