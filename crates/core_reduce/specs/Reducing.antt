-- Where a reduction stands.
use Rattle.std.specs.Prelude.{◌≡◌, ℕ, ◌<◌, ◌≤◌, ◌-◌, ◌^◌, Bool, true, not, ◌||◌, ◌==◌, List, [], ◌∷◌, length, take, filter, sum_by, slice_index, if◌then◌else◌, IsTrue}
use Rattle.std.specs.List.{list_all, AllByRecursion}
use Rattle.vocab.specs.Study.{Question}
use Rattle.cnf.specs.declared.derivations.Line.{Line}
use Rattle.cnf.specs.ClauseList.{ClauseList}
use Rattle.cnf.specs.Fresh.{AreOver, added_by}
use Rattle.cnf.specs.Sat.{Clause}
use Rattle.cnf.specs.Trimmed.{is_trimmed}
use Rattle.meaning.specs.declared.cores.Witness.{Witness}
use Rattle.meaning.specs.Cores.{is_core_from, is_witness}
use Rattle.meaning.specs.StudyClauses.{Sourced, study_clauses}
use Rattle.meaning.specs.Variables.{variable_count}
use Rattle.clause_form.specs.Sources.{sourced, clauses_in, is_left}
use Rattle.search_logs.specs.declared.logs.SearchLog.{SearchLog}
use Rattle.core_reduce.specs.declared.needs.Focus.{Focus}
use Rattle.core_reduce.specs.declared.reduction.Reduction.{Reduction}
use Rattle.core_reduce.specs.declared.rests.Rest.{Rest}
use Rattle.search_logs.specs.Spent.{has_place, IsSpentLog, HasEvidence}
use Rattle.clause_form.specs.Cited.{is_axiom_cited}
use Rattle.core_reduce.specs.Kept.{keeps}
use Rattle.core_reduce.specs.Moved.{moved_place}

-- ---- leaving out

-- the clauses so far are those of the first k that are left, and they are no more
pub record IsRestricting (sources : List Sourced) (clauses : List Clause) (gone : List Bool) (k : ℕ) (rest : ClauseList) : Type 0 where
  pub origins : length rest.origins ≡ length rest.clauses
  pub so_far : sourced rest.clauses rest.origins ≡ filter (is_left (keeps gone)) (take k sources)
  pub few : length rest.clauses ≤ k
  pub small : sum_by length rest.clauses ≤ sum_by length (take k clauses)

-- the flags are as before, but that the axioms which pass a test are kept
pub record KeepsPassing (old new : List Bool) (test : ℕ → Bool) : Type 0 where
  pub count : length new ≡ length old
  pub flags : (a : ℕ) → a < length old → keeps new a ≡ (keeps old a || test a)

-- the new places: how many of the clauses before a place are left
pub record AreNewPlaces (keep : Sourced → Bool) (sources : List Sourced) (upto : ℕ) (numbers : List ℕ) : Type 0 where
  pub count : length numbers ≡ upto
  pub places : (j : ℕ) → j < upto → slice_index numbers j ≡ moved_place keep sources j

-- the witnesses of the places that are kept
abbrev pub kept_marks : (ℕ → Bool) → List ℕ → List Witness → List Witness
kept_marks keep places [] = []
kept_marks keep [] (w ∷ witnesses) = []
kept_marks keep (k ∷ places) (w ∷ witnesses) = if keep k then w ∷ kept_marks keep places witnesses else kept_marks keep places witnesses

-- ---- what a refutation needs

-- the axioms that a refutation needs are left, with their clauses and a trimmed proof over these
pub record IsFocus (sources : List Sourced) (given : List Line) (count : ℕ) (f : Focus) : Type 0 where
  pub flags : length f.gone.items ≡ count
  pub clauses : f.clauses ≡ filter (is_left (keeps f.gone.items)) sources
  pub trimmed : IsTrue (is_trimmed (clauses_in f.clauses) f.proof)
  pub no_new_clause : (test : Clause → Bool) → IsTrue (list_all (λ line. test (added_by line.step)) given) → IsTrue (list_all (λ line. test (added_by line.step)) f.proof)
  pub no_more : length f.proof ≤ length given
  pub cited : (a : ℕ) → a < count → keeps f.gone.items a ≡ true → is_axiom_cited sources given a ≡ true

-- ---- the reduction

-- the places of a core but for one
abbrev pub others : ℕ → List ℕ → List ℕ
others k core = filter (λ c. not (c == k)) core

-- the first axiom of the core that has no witness
abbrev pub next_open : Reduction → ℕ
next_open r = slice_index r.core (length r.witnesses.items)

module _ (study : Question) where
  -- an axiom of the core has a right witness, and its evidence
  pub record IsWitnessed (logs : List SearchLog) (core : List ℕ) (k : ℕ) (w : Witness) : Type 0 where
    pub witness : IsTrue (is_witness study.size study.axioms study.conflicts core k w)
    pub evidence : HasEvidence study logs core k w

  -- so have the first axioms of a list, one for each witness
  abbrev pub AreMarked : List SearchLog → List ℕ → List ℕ → List Witness → Type 0
  AreMarked logs core places [] = Unit {0}
  AreMarked logs core [] (w ∷ witnesses) = ⊥
  AreMarked logs core (k ∷ places) (w ∷ witnesses) = IsWitnessed logs core k w × AreMarked logs core places witnesses

  -- the core names axioms of the study, each once and in order; its clauses and the trimmed proof over them stand; its first axioms have their witnesses; and each log is of a search that spent its limit
  pub record IsReducing (r : Reduction) : Type 0 where
    pub core : IsTrue (is_core_from 0 (length study.axioms) r.core)
    pub clauses : r.clauses ≡ study_clauses study.size study.axioms r.core
    pub trimmed : IsTrue (is_trimmed (clauses_in r.clauses) r.proof)
    pub over : AreOver (variable_count study.size) r.proof
    pub few : length r.proof < 2 ^ 32 - 1
    pub marked : AreMarked r.logs r.core r.core r.witnesses.items
    pub logs : AllByRecursion (IsSpentLog study) r.logs

-- whatever holds of each place of a list holds of each place of its part
abbrev pub AreAmong : List ℕ → List ℕ → Type 0
AreAmong part places = (test : ℕ → Bool) → IsTrue (list_all test places) → IsTrue (list_all test part)

-- how many axioms of the core have no witness yet
abbrev pub unmarked : Reduction → ℕ
unmarked r = length r.core - length r.witnesses.items

-- a reduction went on: it stands, its core is a part of the core before, and fewer axioms have no witness
pub record IsNext (study : Question) (before after : Reduction) : Type 0 where
  pub reducing : IsReducing study after
  pub part : AreAmong after.core before.core
  pub fewer : unmarked after < unmarked before

-- the core without one of its axioms, and the clauses of what is left
pub record IsRest (study : Question) (core : List ℕ) (k : ℕ) (rest : Rest) : Type 0 where
  pub places : rest.places ≡ others k core
  pub clauses : rest.clauses ≡ study_clauses study.size study.axioms (others k core)

-- each place of the core is one of the chosen, and a hint of the given proof names a clause of it
pub record IsFrom (study : Question) (chosen : List ℕ) (given : List Line) (core : List ℕ) : Type 0 where
  pub from_chosen : IsTrue (list_all (has_place chosen) core)
  pub cited : IsTrue (list_all (is_axiom_cited (study_clauses study.size study.axioms chosen) given) core)
