-- Pairs and triples of alternatives by their places, and the variables of pairs.
use Rattle.std.specs.Prelude.{ℕ, ◌+◌, ◌*◌, Bool, length, get_or}
use Rattle.cnf.specs.Signed.{Signed}
use Rattle.meaning.specs.Variables.{pairs, triples, pair_place}

-- the pair at a place
abbrev pub pair_at : ℕ → ℕ → ℕ × ℕ
pair_at m k = get_or (pairs m) k (0, 0)

-- the triple at a place
abbrev pub triple_at : ℕ → ℕ → ℕ × ℕ × ℕ
triple_at m k = get_or (triples m) k (0, 0, 0)

-- alternative x wins at profile p, or does not
abbrev pub winner_lit : ℕ → ℕ → Bool → ℕ → Signed
winner_lit m p sign x = record { variable = p * m + x + 1; positive = sign }

-- at profile p the first of a pair stands above the second, or does not
abbrev pub pair_lit : ℕ → ℕ → Bool → ℕ → ℕ → Signed
pair_lit m p sign x y = record { variable = p * length (pairs m) + 1 + pair_place m x y; positive = sign }
