-- The clauses of frames written out, with their literals by variable.
use Rattle.std.specs.Prelude.{ℕ, true, false, List, [], ◌∷◌, map}
use Rattle.std.specs.List.{flat_map}
use Rattle.cnf.specs.Sat.{Clause}
use Rattle.meaning.specs.Space.{below}
use Rattle.meaning.specs.Variables.{pairs, triples}
use Rattle.outcomes.specs.Places.{winner_lit, pair_lit}

-- some alternative wins
abbrev pub some_wins : ℕ → ℕ → Clause
some_wins m p = map (winner_lit m p true) (below m)

-- the two of a pair do not both win
abbrev pub one_loses : ℕ → ℕ → ℕ × ℕ → Clause
one_loses m p t = winner_lit m p false t.0 ∷ winner_lit m p false t.1 ∷ []

-- of x < y < z, x does not stand above y, y above z and z above x; nor the other way around
abbrev pub no_round : ℕ → ℕ → ℕ × ℕ × ℕ → List Clause
no_round m p t =
    (pair_lit m p false t.0 t.1 ∷ pair_lit m p true t.0 t.2 ∷ pair_lit m p false t.1 t.2 ∷ [])
    ∷ (pair_lit m p true t.0 t.1 ∷ pair_lit m p false t.0 t.2 ∷ pair_lit m p true t.1 t.2 ∷ []) ∷ []

-- the frame of choices
abbrev pub choice_rows : ℕ → ℕ → List Clause
choice_rows m p = some_wins m p ∷ map (one_loses m p) (pairs m)

-- the frame of sets
abbrev pub set_rows : ℕ → ℕ → List Clause
set_rows m p = some_wins m p ∷ []

-- the frame of rankings
abbrev pub ranking_rows : ℕ → ℕ → List Clause
ranking_rows m p = flat_map (no_round m p) (triples m)
