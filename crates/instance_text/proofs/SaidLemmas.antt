-- An axiom of a study and its instances.
use Rattle.std.proofs.Common.{◌≡◌, ap, ℕ, ◌<◌, true, map, Option, Some, slice_get}
use Rattle.std.specs.Prelude.{nat_lt}
use Rattle.std.specs.Cmp.Lexicographic.{pointwise}
use Rattle.std.specs.Option.{option_map_or}
use Rattle.vocab.specs.Formula.{prefix_of}
use Rattle.vocab.specs.Limits.{bases_of, instance_count}
use Rattle.vocab.specs.Size.{Extent, sort_count}
use Rattle.vocab.specs.Study.{Question}
use Rattle.vocab.specs.Titled.{Titled}
use Rattle.vocab.specs.Tree.{Tree}
use Rattle.meaning.specs.Instances.{instance_values}
use Rattle.meaning.proofs.DigitLaws.{are_one_to_one}

-- the values of an instance are in range
pub values_fit : (size : Extent) (sentence : Tree) (k : ℕ) → k < instance_count size sentence → pointwise nat_lt (instance_values size sentence k) (map (sort_count size) (prefix_of sentence)) ≡ true
values_fit size sentence k h = (are_one_to_one (bases_of size sentence)).digits k h

module _ (study : Question) (place : ℕ) (a : Titled) (at : slice_get study.axioms place ≡ Some a) where
  -- what is said of the axiom at the place
  pub at_place : {A : Type 0} (f : Titled → A) (d : A) → option_map_or f (slice_get study.axioms place) d ≡ f a
  at_place f d = ap (λ (o : Option Titled). option_map_or f o d) at
