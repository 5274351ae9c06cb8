-- Sums of the counts of instances.
use Rattle.std.specs.Prelude.{◌≡◌, ℕ, ◌+◌, ◌-◌, ◌*◌, ◌<◌, ◌≤◌, min, List, [], length, sum_by, IsTrue, IsFalse}
use Rattle.crew.specs.Right.{AreRight}
use Rattle.vocab.specs.Range.{up_from}
use Rattle.vocab.specs.Size.{Extent}
use Rattle.vocab.specs.Study.{Question}
use Rattle.meaning.specs.declared.clauses.Counts.{Counts}
use Rattle.meaning.specs.StudyClauses.{clauses_for}
use Rattle.clause_form.specs.Wide.{is_wide}
use Rattle.sharp_verdicts.specs.declared.instances.Cited.{Cited}
use Rattle.sharp_verdicts.specs.Instances.{count_at, is_present}
use Rattle.sharp_verdicts.specs.Totals.{counts_of_instance, passes_clause_limits}

-- the instance of a number of the axiom at a place
abbrev pub instance_at : ℕ → ℕ → Cited
instance_at place n = record { «axiom» = place; number = n }

-- where a piece of 4,096 instances begins
abbrev pub piece_start : ℕ → ℕ
piece_start piece = 4096 * piece

-- where a piece of the instances up to a number ends
abbrev pub piece_end : ℕ → ℕ → ℕ
piece_end count piece = min (piece_start (piece + 1)) count

module _ (study : Question) where
  -- the counts of n instances of the axiom at a place, from one on, together
  abbrev pub counts_from : ℕ → ℕ → ℕ → Counts
  counts_from place from n = record {
    clauses = sum_by (λ k. (counts_of_instance study (instance_at place k)).clauses) (up_from from n);
    literals = sum_by (λ k. (counts_of_instance study (instance_at place k)).literals) (up_from from n);
  }

  -- the counts of the frames
  abbrev pub frame_counts : Counts
  frame_counts = record { clauses = length (clauses_for study.size study.axioms []); literals = sum_by length (clauses_for study.size study.axioms []) }

  -- counts are those of the frames, which pass no limit
  pub record AreFrameCounts (counts : Counts) : Type 0 where
    pub same : counts ≡ frame_counts
    pub few : IsFalse (passes_clause_limits counts)

  -- no instance is too wide
  abbrev pub AreAllNarrow : Type 0
  AreAllNarrow = (c : Cited) → IsTrue (is_present study c) → IsFalse (is_wide (counts_of_instance study c))

  -- the axiom at a place has the instances from one number up to another, and none is too wide
  pub record AreCounted (size : Extent) (place from to : ℕ) : Type 0 where
    pub same : study.size ≡ size
    pub narrow : AreAllNarrow
    pub there : place < length study.axioms
    pub rising : from ≤ to
    pub within : to ≤ count_at study place

  -- a part has the counts of a piece together
  abbrev pub IsSumOfPiece : ℕ → ℕ → ℕ → Counts → Type 0
  IsSumOfPiece place count piece part = part ≡ counts_from place (piece_start piece) (piece_end count piece - piece_start piece)

  -- parts have the counts of all pieces of the instances, up to a number, of the axiom at a place
  pub record AreAllParts (place count : ℕ) (parts : List Counts) : Type 0 where
    pub right : AreRight (IsSumOfPiece place count) 0 parts
    pub whole : count ≤ piece_start (length parts)
    pub exact : piece_start (length parts) < count + 4096
