-- Piece after piece, up to the first in which an instance is false.
use Rattle.std.proofs.Common.{ℕ, ◌+◌, ◌<◌, ◌≤◌, IsTrue, List, Some, None, inl, inr, arith}
use Rattle.std.proofs.lemmas.Bool.{cases_lt}
use Rattle.vocab.specs.Size.{Extent}
use Rattle.vocab.specs.Titled.{Titled}
use Rattle.meaning.specs.Instances.{is_instance_true, AreInstancesTrue, IsFirstFailure}
use Rattle.rule_check.specs.Pieces.{start_of_piece, IsLeastFalse, IsLeastOfPiece}

module _ (size : Extent) (table : List ℕ) (a : Titled) where
  -- where all instances from a start up to a number are true, those from there on go on
  pub true_beyond : (start from to : ℕ) → AreInstancesTrue size table a.sentence start from → IsLeastFalse size table a from to None → AreInstancesTrue size table a.sentence start to
  true_beyond start from to before here k low high = elim (cases_lt k from) [
    | inl less ↦ before k low less
    | inr le ↦ here k le high
  ]

  pub first_beyond : (start from to count instance : ℕ) → start ≤ from → to ≤ count → AreInstancesTrue size table a.sentence start from
      → IsLeastFalse size table a from to (Some instance) → IsFirstFailure size table a.sentence start count instance
  first_beyond start from to count instance after within before here = record {
    not_before = omega (arith, after, here.not_before);
    within = omega (arith, here.within, within);
    fails = here.fails;
    first = λ k low less. elim (cases_lt k from) [
      | inl earlier ↦ before k low earlier
      | inr le ↦ here.first k le less
    ];
  }

  module _ (from to : ℕ) where
    -- the instances of the pieces before this one are true
    abbrev pub AreTrueBefore : ℕ → Type 0
    AreTrueBefore piece = (k : ℕ) → from ≤ k → k < start_of_piece from piece → k < to → IsTrue (is_instance_true size table a.sentence k)

    pub true_further : (piece : ℕ) → AreTrueBefore piece → IsLeastOfPiece size table a from to piece None → AreTrueBefore (piece + 1)
    true_further piece before here k low high within = elim (cases_lt k (start_of_piece from piece)) [
      | inl less ↦ before k low less within
      | inr le ↦ here k le (omega (arith, high, within))
    ]

    pub true_to_end : (count : ℕ) → to ≤ start_of_piece from count → AreTrueBefore count → AreInstancesTrue size table a.sentence from to
    true_to_end count whole before k low high = before k low (omega (arith, high, whole)) high

    pub first_of_piece : (piece instance : ℕ) → AreTrueBefore piece → IsLeastOfPiece size table a from to piece (Some instance) → IsFirstFailure size table a.sentence from to instance
    first_of_piece piece instance before here = record {
      not_before = omega (arith, here.not_before);
      within = omega (arith, here.within);
      fails = here.fails;
      first = λ k low less. elim (cases_lt k (start_of_piece from piece)) [
        | inl earlier ↦ before k low earlier (omega (arith, less, here.within))
        | inr le ↦ here.first k le less
      ];
    }
