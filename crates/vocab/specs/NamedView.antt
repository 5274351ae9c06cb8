-- The tree of a named sentence, and of its terms.
use Rattle.std.specs.Prelude.{List, [], ◌∷◌}
use Rattle.vocab.specs.NamedTree as tree
use Rattle.vocab.specs.NamedTree.{NamedTermTree, NamedTermTrees, NamedTree}
use Rattle.vocab.specs.declared.named.NamedTerm.{NamedTerm, fold-NamedTerm}
use Rattle.vocab.specs.declared.named.NamedTerm.TheOpen.{NamedTerm-F, Terms-F}
use Rattle.vocab.specs.declared.named.Terms.{Terms, fold-Terms}
use Rattle.vocab.specs.declared.named.Named.{Named, fold-Named}
use Rattle.vocab.specs.declared.named.Named.TheOpen.{Named-F}

-- a list of trees as arguments
abbrev pub arguments_of : List NamedTermTree → NamedTermTrees
arguments_of [] = tree.NoArguments
arguments_of (t ∷ ts) = tree.Argument t (arguments_of ts)

-- the tree of a term from the trees of its parts
abbrev pub term_step : NamedTerm-F NamedTermTree NamedTermTrees → NamedTermTree
term_step (NamedTerm-F.Var name) = tree.Var name
term_step (NamedTerm-F.Voter number) = tree.Voter number
term_step (NamedTerm-F.Alt number) = tree.Alt number
term_step (NamedTerm-F.Ballot letters) = tree.Ballot letters
term_step (NamedTerm-F.Call name arguments) = tree.Call name arguments

-- the arguments of a call from the trees of its terms
abbrev pub terms_step : Terms-F NamedTermTree NamedTermTrees → NamedTermTrees
terms_step terms = arguments_of terms.items.items

-- the tree of a term
abbrev pub named_term_tree : NamedTerm → NamedTermTree
named_term_tree = fold-NamedTerm NamedTermTree NamedTermTrees term_step terms_step

-- the trees of the arguments of a call
abbrev pub named_terms_tree : Terms → NamedTermTrees
named_terms_tree = fold-Terms NamedTermTree NamedTermTrees term_step terms_step

-- the tree of a sentence from the trees of its parts
abbrev pub tree_step : Named-F NamedTree → NamedTree
tree_step (Named-F.Pred name arguments) = tree.Pred name (named_terms_tree arguments)
tree_step (Named-F.Equal s t) = tree.Equal (named_term_tree s) (named_term_tree t)
tree_step (Named-F.Not f) = tree.Not f.value
tree_step (Named-F.Both f g) = tree.Both f.value g.value
tree_step (Named-F.Either f g) = tree.Either f.value g.value
tree_step (Named-F.Implies f g) = tree.Implies f.value g.value
tree_step (Named-F.Same f g) = tree.Same f.value g.value
tree_step (Named-F.All name s f) = tree.All name s f.value
tree_step (Named-F.Exists name s f) = tree.Exists name s f.value

-- the tree of a sentence
abbrev pub named_tree : Named → NamedTree
named_tree = fold-Named NamedTree tree_step
