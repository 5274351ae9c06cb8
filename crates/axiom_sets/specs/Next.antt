-- The next set that a map does not cover, as MARCO asks for it (Liffiton, Previti, Malik, Marques-Silva, 2016): one variable
-- an axiom, which is true where the axiom is left out.
use Rattle.std.specs.Prelude.{ℕ, ◌<◌, ◌+◌, Bool, true, false, not, List, ◌++◌, map, filter, length, sum_by, IsTrue, IsFalse, ◌⊎◌}
use Rattle.cnf.specs.Sat.{Clause}
use Rattle.cnf.specs.Fresh.{IsSpent}
use Rattle.cnf.specs.declared.derivations.Line.{Line}
use Rattle.meaning.specs.Space.{below}
use Rattle.search_logs.specs.Spent.{has_place}
use Rattle.axiom_sets.specs.declared.maps.AxiomMap.{AxiomMap}
use Rattle.axiom_sets.specs.declared.next.Next.{Next}
use Rattle.axiom_sets.specs.declared.next.Next.TheVariants.{Uncovered, Whole, Cut}
use Rattle.axiom_sets.specs.Sets.{is_set}
use Rattle.axiom_sets.specs.Maps.{covers}

-- some axiom of the set is left out
abbrev pub lacks_some : List ℕ → Clause
lacks_some set = map (λ a. record { variable = a + 1; positive = true }) set

-- some axiom that is none of the set is not left out
abbrev pub goes_beyond : ℕ → List ℕ → Clause
goes_beyond count set = map (λ a. record { variable = a + 1; positive = false }) (filter (λ a. not (has_place set a)) (below count))

-- what is asked of a set that the map does not cover
abbrev pub uncovered_clauses : ℕ → AxiomMap → List Clause
uncovered_clauses count sets =
    map lacks_some sets.impossible ++ (map (goes_beyond count) sets.possible ++ map lacks_some sets.open)

-- clauses are too many for a list
abbrev pub AreTooMany : List Clause → Type 0
AreTooMany clauses = (4000000 < length clauses) ⊎ (60000000 < sum_by length clauses)

-- the axioms that an assignment does not leave out
abbrev pub chosen : (ℕ → Bool) → ℕ → List ℕ
chosen v count = filter (λ a. not (v (a + 1))) (below count)

-- the search for a set that the map does not cover was cut short: it spent its limit of 1,000,000 conflicts, or its clauses are too many for a list
abbrev pub IsCutShort : ℕ → AxiomMap → Type 0
IsCutShort count sets =
    ((lines : List Line) × IsSpent count (uncovered_clauses count sets) 1000000 lines)
    ⊎ AreTooMany (uncovered_clauses count sets)

-- a set that the map does not cover; or it covers all; or the search was cut short
abbrev pub IsNextSet : ℕ → AxiomMap → Next → Type 0
IsNextSet count sets (Uncovered set) = IsTrue (is_set count set) × IsFalse (covers sets set)
IsNextSet count sets Whole = (set : List ℕ) → IsTrue (is_set count set) → IsTrue (covers sets set)
IsNextSet count sets Cut = IsCutShort count sets
