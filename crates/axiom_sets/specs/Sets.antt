-- Sets of axioms, each by the places of its axioms, which rise.
use Rattle.std.specs.Prelude.{ℕ, Bool, true, false, ◌&&◌, ◌||◌, ◌==◌, nat_lt, List, [], ◌∷◌, length}
use Rattle.std.specs.List.{list_all, list_any}
use Rattle.meaning.specs.Cores.{is_core_from}
use Rattle.search_logs.specs.Spent.{has_place}

-- places of so many axioms, each once and in order
abbrev pub is_set : ℕ → List ℕ → Bool
is_set count set = is_core_from 0 count set

-- each axiom of a set is one of another
abbrev pub is_within : List ℕ → List ℕ → Bool
is_within set other = list_all (has_place other) set

-- some set lies within this one
abbrev pub has_part : List (List ℕ) → List ℕ → Bool
has_part sets set = list_any (λ s. is_within s set) sets

-- this set lies within some set
abbrev pub has_whole : List (List ℕ) → List ℕ → Bool
has_whole sets set = list_any (is_within set) sets

-- ---- the order in which sets are told

-- places come before others in lexicographic order
abbrev pub is_left_of : List ℕ → List ℕ → Bool
is_left_of [] [] = false
is_left_of [] (b ∷ others) = true
is_left_of (a ∷ rest) [] = false
is_left_of (a ∷ rest) (b ∷ others) = nat_lt a b || (a == b && is_left_of rest others)

-- a set comes before another: it has fewer axioms, or as many and comes first by their places
abbrev pub is_before : List ℕ → List ℕ → Bool
is_before set other = nat_lt (length set) (length other) || (length set == length other && is_left_of set other)

-- each set comes before all later ones; so no two are the same
abbrev pub is_rising : List (List ℕ) → Bool
is_rising [] = true
is_rising (set ∷ sets) = list_all (is_before set) sets && is_rising sets
