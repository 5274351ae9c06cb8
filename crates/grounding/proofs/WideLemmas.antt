-- Piece after piece, up to the first in which an instance is too wide.
use Rattle.std.proofs.Common.{ℕ, ◌+◌, ◌<◌, ◌≤◌, Some, None, inl, inr, arith}
use Rattle.std.specs.Prelude.{IsFalse}
use Rattle.std.proofs.lemmas.Bool.{cases_lt}
use Rattle.vocab.specs.Size.{Extent}
use Rattle.vocab.specs.Tree.{Tree}
use Rattle.clause_form.specs.Wide.{is_wide}
use Rattle.grounding.specs.declared.parts.WideInstance.{WideInstance}
use Rattle.grounding.specs.Pieces.{AreNarrow, IsFirstWide, IsLeastWide, end_of, measure_at, start_of}

module _ (size : Extent) (sentence : Tree) where
  -- where all instances up to a number are narrow, those from there on go on
  pub narrow_beyond : (from to : ℕ) → AreNarrow size sentence 0 from → IsFirstWide size sentence from to None → AreNarrow size sentence 0 to
  narrow_beyond from to before here k low high = elim (cases_lt k from) [
    | inl less ↦ before k low less
    | inr le ↦ here k le high
  ]

  pub wide_beyond : (from to count : ℕ) (w : WideInstance) → to ≤ count → AreNarrow size sentence 0 from → IsFirstWide size sentence from to (Some w) → IsLeastWide size sentence 0 count w
  wide_beyond from to count w within before here = record {
    not_before = omega arith;
    within = omega (arith, here.within, within);
    measured = here.measured;
    too_wide = here.too_wide;
    first = λ k low less. elim (cases_lt k from) [
      | inl earlier ↦ before k low earlier
      | inr le ↦ here.first k le less
    ];
  }

  module _ (from to : ℕ) where
    -- the instances of the pieces before this one are narrow
    abbrev pub AreNarrowBefore : ℕ → Type 0
    AreNarrowBefore piece = (k : ℕ) → from ≤ k → k < start_of from piece → k < to → IsFalse (is_wide (measure_at size sentence k))

    pub narrow_further : (piece : ℕ) → AreNarrowBefore piece → IsFirstWide size sentence (start_of from piece) (end_of from to piece) None → AreNarrowBefore (piece + 1)
    narrow_further piece before here k low high within = elim (cases_lt k (start_of from piece)) [
      | inl less ↦ before k low less within
      | inr le ↦ here k le (omega (arith, high, within))
    ]

    pub narrow_to_end : (count : ℕ) → to ≤ start_of from count → AreNarrowBefore count → AreNarrow size sentence from to
    narrow_to_end count whole before k low high = before k low (omega (arith, high, whole)) high

    pub wide_of_piece : (piece : ℕ) (w : WideInstance) → AreNarrowBefore piece → IsFirstWide size sentence (start_of from piece) (end_of from to piece) (Some w) → IsLeastWide size sentence from to w
    wide_of_piece piece w before here = record {
      not_before = omega (arith, here.not_before);
      within = omega (arith, here.within);
      measured = here.measured;
      too_wide = here.too_wide;
      first = λ k low less. elim (cases_lt k (start_of from piece)) [
        | inl earlier ↦ before k low earlier (omega (arith, less, here.within))
        | inr le ↦ here.first k le less
      ];
    }
