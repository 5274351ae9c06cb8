-- What holds of resolved sentences: the statements of the laws. Each is proved as the contract of a function of the same name in src/laws.rt.
use Rattle.std.specs.Prelude.{◌≡◌, ℕ, true, List, [], ◌∷◌, IsTrue}
use Rattle.vocab.specs.declared.kinds.Sort.{Sort}
use Rattle.vocab.specs.Formula.{prefix_of, quantifier_depth}
use Rattle.vocab.specs.Limits as limits
use Rattle.vocab.specs.NamedDepth.{named_depth, quantifiers}
use Rattle.vocab.specs.NamedTree as tree
use Rattle.vocab.specs.NamedTree.{NamedTree}
use Rattle.vocab.specs.Size.{Extent}
use Rattle.vocab.specs.Sorted.{is_sorted_if}
use Rattle.vocab.specs.Tree.{Tree}
use Rattle.meaning.specs.Truth.{is_true_at}
use Rattle.sorts.specs.Faults.{faults}
use Rattle.sorts.specs.NamedTruth.{Assignment, is_named_true}
use Rattle.sorts.specs.Resolved.{resolved}
use Rattle.sorts.specs.Scope.{Scope, outermost_first, names_of}

-- the sorts of the leading universals of a sentence with names
abbrev pub leading_sorts : NamedTree → List Sort
leading_sorts (tree.All name s f) = s ∷ leading_sorts f
leading_sorts _ = []

-- a tree is of the size and of the shape of a sentence: it is closed and well sorted, but may exchange alternatives in a profile at every size, is as deep, has as many quantifiers on one path and the same leading universals
pub record HasShapeOf (size : Extent) (scope : Scope) (f : NamedTree) (t : Tree) : Type 0 where
  pub sorted : IsTrue (is_sorted_if true size (outermost_first scope) t)
  pub as_deep : limits.depth t ≡ named_depth f
  pub quantified : quantifier_depth t ≡ quantifiers f
  pub leading : prefix_of t ≡ leading_sorts f

-- a sentence without faults resolves to a tree of its shape, under any quantifiers
abbrev pub SentencesAreSorted : Type 0
SentencesAreSorted = (size : Extent) (scope : Scope) (f : NamedTree) → faults size scope f ≡ [] → HasShapeOf size scope f (resolved size scope f)

-- a tree is true of the same rules as a closed sentence
abbrev pub HasTruthOf : Extent → NamedTree → Tree → Type 0
HasTruthOf size f t = (table : List ℕ) → is_true_at size table t [] ≡ is_named_true size table [] f

-- a sentence without faults resolves to a tree with the same truth of every rule, under any quantifiers and any values of their variables
abbrev pub SentencesKeepTruth : Type 0
SentencesKeepTruth = (size : Extent) (scope : Scope) (f : NamedTree) → faults size scope f ≡ [] →
    (table : List ℕ) (assignment : Assignment) → names_of assignment ≡ names_of scope →
    is_true_at size table (resolved size scope f) (outermost_first assignment) ≡ is_named_true size table assignment f
