-- When the clauses of a study are refused: an instance of an axiom has too many, or the list of all passes a limit.
use Rattle.std.specs.Prelude.{◌≡◌, ℕ, ◌||◌, nat_lt, Bool, List, [], ◌∷◌, ◌++◌, length, sum_by, find, slice_get, Option, None, Some, option_and_then, option_map, if◌then◌else◌}
use Rattle.std.specs.Option.{option_or}
use Rattle.vocab.specs.Limits.{instance_count}
use Rattle.vocab.specs.Size.{Extent}
use Rattle.vocab.specs.Titled.{Titled}
use Rattle.vocab.specs.Tree.{Tree}
use Rattle.cnf.specs.Sat.{Clause}
use Rattle.meaning.specs.declared.clauses.Counts.{Counts}
use Rattle.meaning.specs.Measure.{measure_of}
use Rattle.meaning.specs.Space.{below}
use Rattle.meaning.specs.StudyClauses.{instance_of, clauses_for}
use Rattle.clause_form.specs.Wide.{is_wide}
use Rattle.clause_form.specs.declared.refusals.GroundFault.{GroundFault}
use Rattle.clause_form.specs.declared.refusals.GroundFault.TheVariants.{Wide, Full, NoMemory}

-- more than 4,000,000 clauses, or more than 60,000,000 literals: more than a list takes
abbrev pub is_over_limits : List Clause → Bool
is_over_limits clauses = nat_lt 4000000 (length clauses) || nat_lt 60000000 (sum_by length clauses)

module _ (size : Extent) (axioms : List Titled) where
  -- the counts of an instance, before anything is left out
  abbrev pub counts_at : Tree → ℕ → Counts
  counts_at sentence k = measure_of (instance_of size sentence k)

  -- the first instance of the axiom at a place that is too wide
  abbrev pub wide_instance : ℕ → Titled → Option GroundFault
  wide_instance place a =
      option_map (λ k. Wide place k (counts_at a.sentence k)) (find (λ k. is_wide (counts_at a.sentence k)) (below (instance_count size a.sentence)))

  -- the first instance of some axioms that is, by axiom
  abbrev pub first_wide : List ℕ → Option GroundFault
  first_wide [] = None
  first_wide (place ∷ chosen) = option_or (option_and_then (wide_instance place) (slice_get axioms place)) (first_wide chosen)

  -- the first of some axioms with whose clauses the list passes a limit, after those of others
  abbrev pub first_full : List ℕ → List ℕ → Option GroundFault
  first_full before [] = None
  first_full before (place ∷ chosen) =
      if is_over_limits (clauses_for size axioms (before ++ place ∷ [])) then Some (Full place) else first_full (before ++ place ∷ []) chosen

  -- what is refused of the clauses of chosen axioms: the first instance that is too wide; where none is, the first axiom at which the list is full
  abbrev pub ground_fault : List ℕ → Option GroundFault
  ground_fault chosen = option_or (first_wide chosen) (first_full [] chosen)

-- a refusal is the one that is wanted; want of memory may come in place of any
abbrev pub IsRefused : GroundFault → Option GroundFault → Type 0
IsRefused NoMemory wanted = Unit {0}
IsRefused fault wanted = wanted ≡ Some fault
