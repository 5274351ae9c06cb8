-- Derivations over another list of clauses: the ids of its clauses in place of those of the first.
use Rattle.std.specs.Prelude.{◌≡◌, ℕ, zero, suc, ◌+◌, ◌-◌, ◌<◌, ◌||◌, nat_lt, All, Bool, true, false, List, map, length, slice_get, slice_index, slice_index_or, if◌then◌else◌, IsTrue}
use Rattle.cnf.specs.declared.derivations.Line.{Line}
use Rattle.cnf.specs.declared.derivations.Step.{Step}
use Rattle.cnf.specs.declared.derivations.Step.TheVariants.{Add, Drop}
use Rattle.cnf.specs.Sat.{Clause}
use Rattle.cnf.specs.Trimmed.{is_cited_in}

-- before, after: how many clauses there are in the first list, and in the other; places: where the clauses of the first stand in the other
module _ (before after : ℕ) (places : List ℕ) where
  -- the place of a clause of the first list, or of one that a line adds, among the clauses of the other and those that its lines add
  abbrev pub new_place : ℕ → ℕ
  new_place j = if nat_lt j before then slice_index places j else after + (j - before)

  -- the same of ids, which are from 1
  abbrev pub new_id : ℕ → ℕ
  new_id zero = zero
  new_id (suc j) = suc (new_place j)

  -- a step with new ids
  abbrev pub renumbered_step : Step → Step
  renumbered_step (Add id clause hints) = Add (new_id id) clause (map new_id hints)
  renumbered_step (Drop ids) = Drop (map new_id ids)

  -- a line with new ids
  abbrev pub renumbered_line : Line → Line
  renumbered_line line = record { at = line.at; step = renumbered_step line.step }

-- the ids of a step are below a bound
abbrev pub HasIdsBelow : ℕ → Step → Type 0
HasIdsBelow bound (Add id clause hints) = (id < bound) × All (λ h. h < bound) hints
HasIdsBelow bound (Drop ids) = All (λ h. h < bound) ids

-- a clause of the first list stands at this place of the other
pub record IsClausePlace (old new : List Clause) (j place : ℕ) : Type 0 where
  pub within : place < length new
  pub same : slice_get new place ≡ slice_get old j

-- each clause of the first list that a hint names stands at its place in the other
abbrev pub AreClausePlaces : (old new : List Clause) → List ℕ → List Line → Type 0
AreClausePlaces old new places lines = (j : ℕ) → j < length old → IsTrue (is_cited_in lines (suc j)) → IsClausePlace old new j (slice_index places j)

-- each clause of the first list that a hint names stands somewhere in the other
abbrev pub StandsSomewhere : (old new : List Clause) → List Line → Type 0
StandsSomewhere old new lines = (j : ℕ) → j < length old → IsTrue (is_cited_in lines (suc j)) → (place : ℕ) × IsClausePlace old new j place

-- the flags are as before, but up where an id passes a test
pub record IsFlagging (old new : List Bool) (test : ℕ → Bool) : Type 0 where
  pub count : length new ≡ length old
  pub flags : (j : ℕ) → j < length old → slice_index_or new j false ≡ (slice_index_or old j false || test (suc j))

-- the flags of the clauses that hints name are up, and no others
pub record AreFlags (clauses : ℕ) (lines : List Line) (flags : List Bool) : Type 0 where
  pub count : length flags ≡ clauses
  pub cited : (j : ℕ) → j < clauses → slice_index_or flags j false ≡ is_cited_in lines (suc j)

-- the clauses of the front of the first list whose flags are up stand at their places
pub record ArePlacesUpTo (old new : List Clause) (flags : List Bool) (upto : ℕ) (places : List ℕ) : Type 0 where
  pub count : length places ≡ upto
  pub stand : (j : ℕ) → j < upto → slice_index_or flags j false ≡ true → IsClausePlace old new j (slice_index places j)
