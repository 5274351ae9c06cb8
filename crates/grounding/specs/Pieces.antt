-- The instances of an axiom in pieces of 64.
use Rattle.std.specs.Prelude.{◌≡◌, ℕ, ◌+◌, ◌-◌, ◌*◌, ◌≤◌, ◌<◌, min, IsTrue, IsFalse, List, map, Option, MatchOption}
use Rattle.std.specs.List.{flat_map}
use Rattle.vocab.specs.Range.{up_from}
use Rattle.vocab.specs.Size.{Extent}
use Rattle.vocab.specs.Tree.{Tree}
use Rattle.cnf.specs.Sat.{Clause}
use Rattle.meaning.specs.declared.clauses.Counts.{Counts}
use Rattle.meaning.specs.Clauses.{plus}
use Rattle.meaning.specs.Measure.{measure_of}
use Rattle.meaning.specs.StudyClauses.{Sourced, clauses_of, instance_of}
use Rattle.clause_form.specs.Wide.{is_wide}
use Rattle.grounding.specs.declared.parts.Measured.{Measured}
use Rattle.grounding.specs.declared.parts.WideInstance.{WideInstance}
use Rattle.grounding.specs.Parts.{KeepSame, with_origin}

-- where a piece of the instances from `from` on begins
abbrev pub start_of : ℕ → ℕ → ℕ
start_of from piece = from + 64 * piece

-- where a piece of the instances from `from` up to `to` ends
abbrev pub end_of : ℕ → ℕ → ℕ → ℕ
end_of from to piece = min (start_of from (piece + 1)) to

-- where a part of four pieces of the instances from `from` on begins
abbrev pub part_start : ℕ → ℕ → ℕ
part_start from part = from + 256 * part

-- where a part of the instances from `from` up to `to` ends
abbrev pub part_end : ℕ → ℕ → ℕ → ℕ
part_end from to part = min (part_start from (part + 1)) to

-- what n instances from i on give, one after another
abbrev pub rows_from : {A : Type 0} → (ℕ → List A) → ℕ → ℕ → List A
rows_from rows i n = flat_map rows (up_from i n)

module _ (size : Extent) (sentence : Tree) where
  -- the measure of an instance
  abbrev pub measure_at : ℕ → Counts
  measure_at k = measure_of (instance_of size sentence k)

  -- the clauses of an instance
  abbrev pub rows_at : ℕ → List Clause
  rows_at k = clauses_of size (plus (instance_of size sentence k))

  -- the clauses of an instance with their origin, the number of the instance added to a base
  abbrev pub sources_at : ℕ → ℕ → List Sourced
  sources_at base k = map (λ c. with_origin c (base + k)) (rows_at k)

  -- the clauses of the instances from one number up to another, with their origins
  abbrev pub sources_of : ℕ → ℕ → ℕ → List Sourced
  sources_of base from to = rows_from (sources_at base) from (to - from)

  -- of a part the same is kept as of the clauses of the instances from one number up to another
  abbrev pub IsKeptPart : ℕ → ℕ → ℕ → List Sourced → Type 0
  IsKeptPart base from to part = KeepSame part (sources_of base from to)

  -- as of those of four pieces
  abbrev pub IsPartOf : ℕ → ℕ → ℕ → ℕ → List Sourced → Type 0
  IsPartOf base from to n part = IsKeptPart base (part_start from n) (part_end from to n) part

  -- no instance from one number up to another is too wide
  abbrev pub AreNarrow : ℕ → ℕ → Type 0
  AreNarrow from to = (k : ℕ) → from ≤ k → k < to → IsFalse (is_wide (measure_at k))

  -- the least instance from one number up to another that is too wide, with its measure
  pub record IsLeastWide (from to : ℕ) (w : WideInstance) : Type 0 where
    pub not_before : from ≤ w.number
    pub within : w.number < to
    pub measured : w.measure ≡ measure_at w.number
    pub too_wide : IsTrue (is_wide w.measure)
    pub first : AreNarrow from w.number

  -- the least one, or none where all are narrow
  abbrev pub IsFirstWide : ℕ → ℕ → Option WideInstance → Type 0
  IsFirstWide from to found = MatchOption found (AreNarrow from to) (IsLeastWide from to)

  -- the least one of a piece, by its measure
  abbrev pub IsFirstWideOfPiece : ℕ → ℕ → ℕ → Measured → Type 0
  IsFirstWideOfPiece from to piece measured = IsFirstWide (start_of from piece) (end_of from to piece) measured.wide
