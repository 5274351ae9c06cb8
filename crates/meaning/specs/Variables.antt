-- Literals of a size, and the numbered variables that stand for them: the encoding of Tang and Lin (2009), as Geist and Peters (2017) describe it.
use Rattle.std.specs.Prelude.{ℕ, Bool, true, false, ◌&&◌, ◌==◌, ◌+◌, ◌-◌, ◌*◌, ◌/◌, ◌%◌, nat_lt, List, map, filter, length, get_or, if◌then◌else◌}
use Rattle.std.specs.List.{flat_map, position_or_len}
use Rattle.vocab.specs.declared.kinds.Kind.{Kind}
use Rattle.vocab.specs.declared.kinds.Kind.TheVariants.{Choice, Ranking, Sets}
use Rattle.vocab.specs.declared.kinds.Sort.TheVariants.{Profile}
use Rattle.vocab.specs.declared.literals.Literal.{Literal}
use Rattle.vocab.specs.declared.literals.Literal.TheVariants.{Wins, Loses, Above}
use Rattle.vocab.specs.Size.{Extent, sort_count}
use Rattle.cnf.specs.Signed.{Signed}
use Rattle.meaning.specs.Space.{below}
use Rattle.meaning.specs.Truth.{holds}

-- the numbers above x and below m
abbrev pub above_in : ℕ → ℕ → List ℕ
above_in m x = filter (nat_lt x) (below m)

-- the pairs x < y below m, in lexicographic order
abbrev pub pairs : ℕ → List (ℕ × ℕ)
pairs m = flat_map (λ x. map (λ y. (x, y)) (above_in m x)) (below m)

-- the triples x < y < z below m, in lexicographic order
abbrev pub triples : ℕ → List (ℕ × ℕ × ℕ)
triples m = flat_map (λ (x, y). map (λ z. (x, y, z)) (above_in m y)) (pairs m)

-- the place of a pair
abbrev pub pair_place : ℕ → ℕ → ℕ → ℕ
pair_place m x y = position_or_len (λ (v, w). v == x && w == y) (pairs m)

-- how many variables a profile has: one for each alternative, or for each pair of alternatives
abbrev pub bits : Kind → ℕ → ℕ
bits Choice m = m
bits Ranking m = length (pairs m)
bits Sets m = m

-- the literal of variable v + 1, by its sign, where a profile has a variable for each alternative
abbrev pub winner_at : ℕ → ℕ → Bool → Literal
winner_at m v sign = if sign then Wins (v % m) (v / m) else Loses (v % m) (v / m)

-- and where it has one for each pair
abbrev pub comparison_at : ℕ → ℕ → Bool → Literal
comparison_at m v sign =
    let n = length (pairs m) in
    let pair : ℕ × ℕ = get_or (pairs m) (v % n) (0, 0) in
    if sign then Above pair.0 pair.1 (v / n) else Above pair.1 pair.0 (v / n)

module _ (size : Extent) where
  -- how many variables a study has
  abbrev pub variable_count : ℕ
  variable_count = sort_count size Profile * bits size.kind size.alternatives

  -- the variable and the sign of a literal: variables are numbered from 1, by profile, and at a profile by alternative, or by pair
  abbrev pub lit_of : Literal → Signed
  lit_of (Wins x p) = record { variable = p * size.alternatives + x + 1; positive = true }
  lit_of (Loses x p) = record { variable = p * size.alternatives + x + 1; positive = false }
  lit_of (Above x y p) =
      let m = size.alternatives in
      let first : ℕ = p * length (pairs m) + 1 in
      if nat_lt x y then record { variable = first + pair_place m x y; positive = true } else record { variable = first + pair_place m y x; positive = false }

  -- the literal of variable v + 1, by its sign
  abbrev pub literal_at : Kind → ℕ → Bool → Literal
  literal_at Choice v sign = winner_at size.alternatives v sign
  literal_at Ranking v sign = comparison_at size.alternatives v sign
  literal_at Sets v sign = winner_at size.alternatives v sign

  -- the literal that a variable and a sign stand for
  abbrev pub literal_of : Signed → Literal
  literal_of s = literal_at size.kind (s.variable - 1) s.positive

  -- the bits of a rule: each variable is true where its literal holds
  abbrev pub bits_of : List ℕ → ℕ → Bool
  bits_of table variable = holds size table (literal_of (record { variable = variable; positive = true }))
