-- How much is left to ask: a measure that falls with each set that is added to a map.
use Rattle.std.specs.Prelude.{ℕ, zero, suc, ◌+◌, ◌*◌, Bool, not, List, [], ◌∷◌, ◌++◌, map, filter, length}
use Rattle.axiom_sets.specs.declared.maps.AxiomMap.{AxiomMap}
use Rattle.axiom_sets.specs.Maps.{decides, covers}

-- all sets of places from one number on, of which there are so many
abbrev pub sets_from : ℕ → ℕ → List (List ℕ)
sets_from at zero = [] ∷ []
sets_from at (suc count) = sets_from (at + 1) count ++ map (λ set. at ∷ set) (sets_from (at + 1) count)

-- how many sets of so many axioms fail a test
abbrev pub count_failing : ℕ → (List ℕ → Bool) → ℕ
count_failing count passes = length (filter (λ set. not (passes set)) (sets_from 0 count))

-- how many sets the map does not decide, and then how many it does not cover
abbrev pub left_to_ask : ℕ → AxiomMap → ℕ
left_to_ask count sets = count_failing count (decides sets) * (length (sets_from 0 count) + 1) + count_failing count (covers sets)
