-- Instances of a sentence: one for each list of values of its leading universals. A sentence without any has the one instance 0.
use Rattle.std.specs.Prelude.{ℕ, ◌<◌, ◌≤◌, Bool, IsTrue, IsFalse, List}
use Rattle.vocab.specs.Formula.{body_of}
use Rattle.vocab.specs.Limits.{bases_of}
use Rattle.vocab.specs.Size.{Extent}
use Rattle.vocab.specs.Tree.{Tree}
use Rattle.meaning.specs.Space.{digits_of}
use Rattle.meaning.specs.Truth.{is_true_at}

-- the values that instance k gives the leading universals: the digits of k, the first most significant
abbrev pub instance_values : Extent → Tree → ℕ → List ℕ
instance_values size sentence k = digits_of (bases_of size sentence) k

module _ (size : Extent) (table : List ℕ) (sentence : Tree) where
  -- the body of instance k is true of a rule
  abbrev pub is_instance_true : ℕ → Bool
  is_instance_true k = is_true_at size table (body_of sentence) (instance_values size sentence k)

  -- each instance from one number up to another is true of the rule
  abbrev pub AreInstancesTrue : ℕ → ℕ → Type 0
  AreInstancesTrue from to = (k : ℕ) → from ≤ k → k < to → IsTrue (is_instance_true k)

  -- the least instance from one number up to another that is false of the rule
  pub record IsFirstFailure (from to k : ℕ) : Type 0 where
    pub not_before : from ≤ k
    pub within : k < to
    pub fails : IsFalse (is_instance_true k)
    pub first : AreInstancesTrue from k
