-- What holds of maps: the statements of the laws. Each is proved as the contract of a function of the same name in src/laws.rt.
use Rattle.std.specs.Prelude.{◌≡◌, ℕ, ◌≤◌, ◌^◌, List, [], length, IsTrue, IsFalse, ◌⊎◌, ◌↔◌}
use Rattle.std.specs.List.{AllByRecursion}
use Rattle.vocab.specs.Study.{Question}
use Rattle.meaning.specs.Variables.{variable_count}
use Rattle.search_logs.specs.Spent.{has_place}
use Rattle.axiom_sets.specs.Sets.{is_set, is_within, has_part, has_whole}
use Rattle.core_reduce.specs.Reducing.{others}
use Rattle.core_maps.specs.declared.answers.CoreMap.{CoreMap}
use Rattle.core_maps.specs.declared.answers.Ending.TheVariants.{Whole}
use Rattle.core_maps.specs.CoreMaps.{HasRule, IsImpossibleSet, IsMapping}

-- of each impossible set of a map that is whole, each set with one axiom less has a rule, or an open set lies within it
abbrev pub ImpossibleAreMinimal : Type 0
ImpossibleAreMinimal = (study : Question) (map : CoreMap) → IsMapping study map → map.ending ≡ Whole →
    AllByRecursion (λ set. (k : ℕ) → IsTrue (has_place set k) → HasRule study (others k set) ⊎ IsTrue (has_part map.sets.open (others k set))) map.sets.impossible

-- of each possible set of a map that is whole, no rule satisfies any set of the study's axioms that has it and one axiom more, or an open set lies within that
abbrev pub PossibleAreLargest : Type 0
PossibleAreLargest = (study : Question) (map : CoreMap) → IsMapping study map → map.ending ≡ Whole →
    AllByRecursion (λ set. (more : List ℕ) (k : ℕ) → IsTrue (is_set (length study.axioms) more) → IsTrue (is_within set more) → IsTrue (has_place more k) → IsFalse (has_place set k) →
    IsImpossibleSet study more ⊎ IsTrue (has_part map.sets.open more)) map.sets.possible

-- a map that is whole and has no open set decides each set of the study's axioms: some rule satisfies it exactly where it lies within a possible one, and none does exactly where an impossible one lies within it
abbrev pub MapsDecide : Type 0
MapsDecide = (study : Question) (map : CoreMap) → IsMapping study map → map.ending ≡ Whole → map.sets.open ≡ [] →
    (set : List ℕ) → IsTrue (is_set (length study.axioms) set) →
    (HasRule study set ↔ IsTrue (has_whole map.sets.possible set)) × (IsImpossibleSet study set ↔ IsTrue (has_part map.sets.impossible set))

-- where the limit is at least 3 to the number of variables, a map has no open set
abbrev pub EnoughLeavesNone : Type 0
EnoughLeavesNone = (study : Question) (map : CoreMap) → IsMapping study map → 3 ^ variable_count study.size ≤ study.conflicts → map.sets.open ≡ []
