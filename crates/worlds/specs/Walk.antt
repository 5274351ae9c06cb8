-- The instances of a formula whose outer variables have values already.
use Rattle.std.specs.Prelude.{ℕ, ◌<◌, ◌≤◌, Bool, IsTrue, IsFalse, List, ◌++◌}
use Rattle.vocab.specs.Formula.{body_of}
use Rattle.vocab.specs.Size.{Extent}
use Rattle.vocab.specs.Tree.{Tree}
use Rattle.meaning.specs.Instances.{instance_values}
use Rattle.meaning.specs.Truth.{is_true_at}

module _ (size : Extent) (table : List ℕ) (f : Tree) (env : List ℕ) where
  -- the body of instance k is true of the rule
  abbrev pub is_true_in : ℕ → Bool
  is_true_in k = is_true_at size table (body_of f) (env ++ instance_values size f k)

  -- each instance from one number up to another is true
  abbrev pub AreTrueIn : ℕ → ℕ → Type 0
  AreTrueIn from to = (k : ℕ) → from ≤ k → k < to → IsTrue (is_true_in k)

  -- the least instance from one number up to another that is false
  pub record IsFirstFalseIn (from to k : ℕ) : Type 0 where
    pub not_before : from ≤ k
    pub within : k < to
    pub fails : IsFalse (is_true_in k)
    pub first : AreTrueIn from k
