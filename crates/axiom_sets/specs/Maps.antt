-- Maps of the sets of some axioms: what is known of each.
use Rattle.std.specs.Prelude.{◌≡◌, ℕ, Bool, true, not, ◌&&◌, ◌||◌, List, [], ◌∷◌, ◌++◌, filter, IsTrue}
use Rattle.std.specs.List.{list_all}
use Rattle.axiom_sets.specs.declared.maps.AxiomMap.{AxiomMap}
use Rattle.axiom_sets.specs.Sets.{is_set, is_within, has_part, has_whole, is_rising}

-- the map tells of a set whether some rule satisfies it: an impossible set lies within it, or it lies within a possible one
abbrev pub decides : AxiomMap → List ℕ → Bool
decides map set = has_part map.impossible set || has_whole map.possible set

-- the map covers a set: it decides it, or an open set lies within it
abbrev pub covers : AxiomMap → List ℕ → Bool
covers map set = decides map set || has_part map.open set

-- no set of a list lies within a later one, nor a later one within it
abbrev pub are_apart : List (List ℕ) → Bool
are_apart [] = true
are_apart (set ∷ sets) = list_all (λ s. not (is_within s set) && not (is_within set s)) sets && are_apart sets

-- a map is tidy: its sets are of so many axioms; those of a list rise, and none of them lies within another; and it decides no set that is open
pub record IsTidy (count : ℕ) (map : AxiomMap) : Type 0 where
  pub impossible : IsTrue (list_all (is_set count) map.impossible)
  pub possible : IsTrue (list_all (is_set count) map.possible)
  pub open_sets : IsTrue (list_all (is_set count) map.open)
  pub impossible_rise : IsTrue (is_rising map.impossible)
  pub possible_rise : IsTrue (is_rising map.possible)
  pub open_rise : IsTrue (is_rising map.open)
  pub least : IsTrue (are_apart map.impossible)
  pub largest : IsTrue (are_apart map.possible)
  pub least_open : IsTrue (are_apart map.open)
  pub undecided : IsTrue (list_all (λ set. not (decides map set)) map.open)

-- a set was put among others
pub record IsInserted (old new : List (List ℕ)) (set : List ℕ) : Type 0 where
  pub before : List (List ℕ)
  pub after : List (List ℕ)
  pub old_is : old ≡ before ++ after
  pub new_is : new ≡ before ++ set ∷ after

-- a set was put among those of a list that pass a test
abbrev pub IsPut : (old new : List (List ℕ)) → (List ℕ → Bool) → List ℕ → Type 0
IsPut old new passes set = IsInserted (filter passes old) new set

-- an impossible set was added: those within which it lies went, and so did the open ones
pub record HasImpossible (old new : AxiomMap) (set : List ℕ) : Type 0 where
  pub impossible : IsPut old.impossible new.impossible (λ s. not (is_within set s)) set
  pub possible : new.possible ≡ old.possible
  pub open_sets : new.open ≡ filter (λ s. not (is_within set s)) old.open

-- a possible set was added: those that lie within it went, and so did the open ones
pub record HasPossible (old new : AxiomMap) (set : List ℕ) : Type 0 where
  pub impossible : new.impossible ≡ old.impossible
  pub possible : IsPut old.possible new.possible (λ s. not (is_within s set)) set
  pub open_sets : new.open ≡ filter (λ s. not (is_within s set)) old.open

-- an open set was added: those within which it lies went
pub record HasOpen (old new : AxiomMap) (set : List ℕ) : Type 0 where
  pub impossible : new.impossible ≡ old.impossible
  pub possible : new.possible ≡ old.possible
  pub open_sets : IsPut old.open new.open (λ s. not (is_within set s)) set
