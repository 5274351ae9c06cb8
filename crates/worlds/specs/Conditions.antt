-- When a term, an atom or a formula can be evaluated: under some sorts its variables have values in range and it is well sorted.
use Rattle.std.specs.Prelude.{ℕ, ◌+◌, ◌<◌, ◌≤◌, List, [], ◌∷◌, ◌++◌, length, IsTrue}
use Rattle.vocab.specs.declared.kinds.Sort.{Sort}
use Rattle.vocab.specs.Formula.{quantifier_depth}
use Rattle.vocab.specs.Size.{Extent, sort_count}
use Rattle.vocab.specs.Sorted.{is_of_sort, is_atom_sorted, is_sorted, are_of_sorts}
use Rattle.vocab.specs.Tree.{TermTree, AtomTree, Tree, Leaf, Not, Both, Either, Implies, Same, All, Exists}

module _ (size : Extent) where
  -- the term gives a value of this sort
  pub record IsTermAt (sort : Sort) (t : TermTree) (env : List ℕ) : Type 0 where
    pub sorts : List Sort
    pub in_range : IsTrue (are_of_sorts size sorts env)
    pub sorted : IsTrue (is_of_sort size sorts sort t)

  -- the term gives a value of some sort
  abbrev pub HasSort : TermTree → List ℕ → Type 0
  HasSort t env = (sort : Sort) × IsTermAt sort t env

  -- the atom is well sorted, and its variables have values of their sorts
  pub record IsAtomAt (a : AtomTree) (env : List ℕ) : Type 0 where
    pub sorts : List Sort
    pub in_range : IsTrue (are_of_sorts size sorts env)
    pub sorted : IsTrue (is_atom_sorted size sorts a)

  -- the formula is well sorted, its free variables have values of their sorts, and at most 12 values are ever there, those of its own quantifiers among them
  pub record IsFormulaAt (f : Tree) (env : List ℕ) : Type 0 where
    pub sorts : List Sort
    pub in_range : IsTrue (are_of_sorts size sorts env)
    pub sorted : IsTrue (is_sorted size sorts f)
    pub room : length env + quantifier_depth f ≤ 12

  -- the same by parts: each atom can be evaluated at all values of the quantifiers around it
  abbrev pub IsEvaluable : Tree → List ℕ → Type 0
  IsEvaluable (Leaf a) env = IsAtomAt a env
  IsEvaluable (Not f) env = IsEvaluable f env
  IsEvaluable (Both f g) env = IsEvaluable f env × IsEvaluable g env
  IsEvaluable (Either f g) env = IsEvaluable f env × IsEvaluable g env
  IsEvaluable (Implies f g) env = IsEvaluable f env × IsEvaluable g env
  IsEvaluable (Same f g) env = IsEvaluable f env × IsEvaluable g env
  IsEvaluable (All s f) env = (length env < 12) × ((v : ℕ) → v < sort_count size s → IsEvaluable f (env ++ v ∷ []))
  IsEvaluable (Exists s f) env = (length env < 12) × ((v : ℕ) → v < sort_count size s → IsEvaluable f (env ++ v ∷ []))
