-- Derivations that are made in place of a given one.
use Rattle.std.specs.Prelude.{◌≡◌, ℕ, ◌-◌, ◌<◌, ◌^◌, nat_le, ◌&&◌, ◌||◌, Bool, List, ◌++◌, length, get_or, All, ⊤, IsPermutation, IsTrue, ◌⊎◌}
use Rattle.std.specs.List.{list_all, list_any, Contains}
use Rattle.cnf.specs.Signed.{Signed}
use Rattle.cnf.specs.Sat.{Clause, contains_clause}
use Rattle.cnf.specs.Derived.{IsAccepted}
use Rattle.cnf.specs.Fresh.{added_by}
use Rattle.cnf.specs.Trimmed.{is_empty_clause, is_trimmed}
use Rattle.cnf.specs.declared.derivations.Line.{Line}
use Rattle.cnf.specs.declared.derivations.Step.{Step}
use Rattle.cnf.specs.declared.derivations.Step.TheVariants.{Add, Drop}
use Rattle.lrat_check.specs.Ranges.{has_next}
use Rattle.line_hints.specs.Ids.{all_added, clause_of_id}

-- each clause that the lines add passes a test
abbrev pub EachPasses : (Clause → Bool) → List Line → Type 0
EachPasses test lines = IsTrue (list_all (λ l. test (added_by l.step)) lines)

-- a clause has at most so many literals
abbrev pub has_at_most : ℕ → Clause → Bool
has_at_most most clause = nat_le (length clause) most

-- a clause has at most one literal
abbrev pub is_single : Clause → Bool
is_single = has_at_most 1

-- a clause has at most two
abbrev pub is_pair : Clause → Bool
is_pair = has_at_most 2

-- a clause has no literal but those of another, and no more of them
abbrev pub is_part : Clause → Clause → Bool
is_part whole clause = contains_clause whole clause && nat_le (length clause) (length whole)

-- a clause is empty, or part of one that the given lines add
abbrev pub is_part_of : List Line → Clause → Bool
is_part_of given clause = is_empty_clause clause || list_any (λ g. is_part (added_by g.step) clause) given

-- a literal stands in the clause of a hint
pub record IsNamed (all : List Clause) (hints : List ℕ) (l : Signed) : Type 0 where
  pub id : ℕ
  pub hint : Contains hints id
  pub literal : Contains (clause_of_id all id) l

-- each literal of an added clause stands in the clause of a hint: by these hints the clause does not follow without it
abbrev pub NamesEach : List Clause → Step → Type 0
NamesEach all (Add id clause hints) = All (IsNamed all hints) clause
NamesEach all (Drop ids) = ⊤

-- each clause has at most two literals, and needs each of them: by its hints one supposition does not do in place of two
pub record ArePaired (clauses : List Clause) (lines : List Line) : Type 0 where
  pub pairs : EachPasses is_pair lines
  pub needed : All (λ line. NamesEach (clauses ++ all_added lines) line.step) lines

-- each clause has at most one literal, or each at most two and needs them, or each is empty or part of one that the given lines add
abbrev pub AreSimpler : List Clause → List Line → List Line → Type 0
AreSimpler clauses given lines = EachPasses is_single lines ⊎ (ArePaired clauses lines ⊎ EachPasses (is_part_of given) lines)

-- a step adds the clause of a given one under its id, by the given one's hints in some order; or it takes away the same
abbrev pub HasHintsOf : Step → Step → Type 0
HasHintsOf (Add id clause hints) (Add k same order) = (k ≡ id) × (same ≡ clause) × IsPermutation hints order
HasHintsOf (Add id clause hints) (Drop ids) = ⊥
HasHintsOf (Drop ids) step = step ≡ Drop ids

-- each line does what a given one does, by the given one's hints in some order
pub record AreReordered (given lines : List Line) : Type 0 where
  pub count : length lines ≡ length given
  pub each : (k : ℕ) (d : Line) → k < length given → HasHintsOf (get_or given k d).step (get_or lines k d).step

-- a refutation of the clauses in which each line and each hint is needed
pub record IsProof (input : List Clause) (lines : List Line) : Type 0 where
  pub trimmed : IsTrue (is_trimmed input lines)
  pub accepted : IsAccepted input lines
  pub few : length lines < 2 ^ 32 - 1
  pub numbers : IsTrue (list_all has_next lines)
