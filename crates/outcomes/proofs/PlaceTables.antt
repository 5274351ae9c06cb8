-- What the tables of pairs and triples say, computed once over their rows.
use Rattle.std.proofs.Common.{◌≡◌, refl, sym, subst, ℕ, ◌+◌, ◌-◌, ◌<◌, ◌≤◌, Bool, true, not, ◌&&◌, ◌||◌, [], length, get_or, arith, eqb-true, ltb-true, lt-ltb, inl, inr}
use Rattle.std.specs.Prelude.{◌==◌, nat_lt}
use Rattle.std.specs.List.{list_all}
use Rattle.std.proofs.lemmas.Bool.{and_parts, or_cases, both_ways, not-true}
use Rattle.meaning.specs.Space.{below}
use Rattle.meaning.specs.Variables.{pairs, triples, pair_place}
use Rattle.meaning.proofs.SpaceLaws.{all_at}
use Rattle.outcomes.specs.Places.{pair_at, triple_at}
use Rattle.outcomes.specs.declared.places.TheConstants.{FIRST, SECOND, PLACES, TRIPLES}

-- an entry of five alternatives is that of m, with as many added as are left out
abbrev entry_test : ℕ → ℕ → ℕ → Bool
entry_test out entry x = nat_lt out (entry + 1) && entry - out == x

entry_from : (out entry x : ℕ) → entry_test out entry x ≡ true → (out ≤ entry) × (entry - out ≡ x)
entry_from out entry x h =
    let e = and_parts (nat_lt out (entry + 1)) (entry - out == x) h in
    let low = ltb-true out (entry + 1) e.0 in (omega (arith, low), eqb-true _ _ e.1)

-- a test of each place, for each number of alternatives
at_size : (t : ℕ → ℕ → Bool) (count : ℕ → ℕ) → list_all (λ m. list_all (t m) (below (count m))) (below 6) ≡ true → (m k : ℕ) → m ≤ 5 → k < count m → t m k ≡ true
at_size t count h m k few l =
    all_at (t m) (count m) 0 k (all_at (λ n. list_all (t n) (below (count n))) 6 0 m h (omega arith) (omega arith)) (omega arith) (omega arith)

abbrev small_test : (ℕ → ℕ) → ℕ → Bool
small_test count m = nat_lt (count m) 11

-- ---- pairs

pub pairs_few : (m : ℕ) → m ≤ 5 → length (pairs m) ≤ 10
pairs_few m few =
    let h = ltb-true _ _ (all_at (small_test (λ n. length (pairs n))) 6 0 m refl (omega arith) (omega arith)) in omega (arith, h)

abbrev pair_test : ℕ → ℕ → Bool
pair_test m k =
    let i = k + 10 - length (pairs m) in
    entry_test (5 - m) (get_or FIRST i 0) (pair_at m k).0 && entry_test (5 - m) (get_or SECOND i 0) (pair_at m k).1

module _ (m k n : ℕ) (few : m ≤ 5) (l : k < length (pairs m)) (same : n ≡ length (pairs m)) where
  pair_entries : (entry_test (5 - m) (get_or FIRST (k + 10 - n) 0) (pair_at m k).0 ≡ true) × (entry_test (5 - m) (get_or SECOND (k + 10 - n) 0) (pair_at m k).1 ≡ true)
  pair_entries =
      let Has : ℕ → Type 0 = λ i. (entry_test (5 - m) (get_or FIRST (k + 10 - i) 0) (pair_at m k).0 ≡ true) × (entry_test (5 - m) (get_or SECOND (k + 10 - i) 0) (pair_at m k).1 ≡ true) in
      subst Has (sym same) (and_parts _ _ (at_size pair_test (λ m. length (pairs m)) refl m k few l))

  pub first_entry : (5 - m ≤ get_or FIRST (k + 10 - n) 0) × (get_or FIRST (k + 10 - n) 0 - (5 - m) ≡ (pair_at m k).0)
  first_entry = entry_from _ _ _ pair_entries.0

  pub second_entry : (5 - m ≤ get_or SECOND (k + 10 - n) 0) × (get_or SECOND (k + 10 - n) 0 - (5 - m) ≡ (pair_at m k).1)
  second_entry = entry_from _ _ _ pair_entries.1

-- ---- places of pairs

abbrev place_entry : ℕ → ℕ → ℕ → ℕ
place_entry m x y = get_or (get_or PLACES (x + (5 - m)) []) (y + (5 - m)) 0

abbrev place_test : ℕ → ℕ → ℕ → Bool
place_test m x y = not (nat_lt x y) || entry_test 10 (place_entry m x y + length (pairs m)) (pair_place m x y)

pub place_from : (m x y : ℕ) → m ≤ 5 → x < y → y < m → (10 ≤ place_entry m x y + length (pairs m)) × (place_entry m x y + length (pairs m) - 10 ≡ pair_place m x y)
place_from m x y few lt l =
    let row = all_at (place_test m x) m 0 y (at_size (λ n z. list_all (place_test n z) (below n)) (λ n. n) refl m x few (omega arith)) (omega arith) (omega arith) in
    elim (or_cases (not (nat_lt x y)) (entry_test 10 (place_entry m x y + length (pairs m)) (pair_place m x y)) row) [
      | inl e ↦ absurd (both_ways _ (not-true _ e) (lt-ltb x y lt))
      | inr e ↦ entry_from _ _ _ e
    ]

-- ---- triples

pub triples_few : (m : ℕ) → m ≤ 5 → length (triples m) ≤ 10
triples_few m few =
    let h = ltb-true _ _ (all_at (small_test (λ n. length (triples n))) 6 0 m refl (omega arith) (omega arith)) in omega (arith, h)

abbrev triple_entry : ℕ → ℕ → ℕ
triple_entry i j = get_or (get_or TRIPLES i []) j 0

abbrev triple_test : ℕ → ℕ → Bool
triple_test m k =
    let i = k + 10 - length (triples m) in
    let t : ℕ × ℕ × ℕ = triple_at m k in
    entry_test (5 - m) (triple_entry i 0) t.0 && (entry_test (5 - m) (triple_entry i 1) t.1 && (entry_test (5 - m) (triple_entry i 2) t.2 && (nat_lt t.0 t.1 && (nat_lt t.1 t.2 && nat_lt t.2 m))))

module _ (m k : ℕ) (few : m ≤ 5) (l : k < length (triples m)) where
  abbrev entries : ℕ → ℕ → Bool
  entries j x = entry_test (5 - m) (triple_entry (k + 10 - length (triples m)) j) x

  abbrev rising : Bool
  rising = nat_lt (triple_at m k).0 (triple_at m k).1 && (nat_lt (triple_at m k).1 (triple_at m k).2 && nat_lt (triple_at m k).2 m)

  triple_row : (entries 0 (triple_at m k).0 ≡ true) × (entries 1 (triple_at m k).1 ≡ true) × (entries 2 (triple_at m k).2 ≡ true) × (rising ≡ true)
  triple_row =
      let a = and_parts (entries 0 (triple_at m k).0) (entries 1 (triple_at m k).1 && (entries 2 (triple_at m k).2 && rising)) (at_size triple_test (λ m. length (triples m)) refl m k few l) in
      let b = and_parts (entries 1 (triple_at m k).1) (entries 2 (triple_at m k).2 && rising) a.1 in
      let c = and_parts (entries 2 (triple_at m k).2) rising b.1 in
      (a.0, b.0, c.0, c.1)

  -- a triple rises, below m
  pub triple_rises : ((triple_at m k).0 < (triple_at m k).1) × ((triple_at m k).1 < (triple_at m k).2) × ((triple_at m k).2 < m)
  triple_rises =
      let d = and_parts (nat_lt (triple_at m k).0 (triple_at m k).1) (nat_lt (triple_at m k).1 (triple_at m k).2 && nat_lt (triple_at m k).2 m) triple_row.3 in
      let e = and_parts (nat_lt (triple_at m k).1 (triple_at m k).2) (nat_lt (triple_at m k).2 m) d.1 in
      (ltb-true _ _ d.0, ltb-true _ _ e.0, ltb-true _ _ e.1)

module _ (m k n : ℕ) (few : m ≤ 5) (l : k < length (triples m)) (same : n ≡ length (triples m)) where
  abbrev Entry : ℕ → ℕ → Type 0
  Entry j x = (5 - m ≤ triple_entry (k + 10 - n) j) × (triple_entry (k + 10 - n) j - (5 - m) ≡ x)

  pub triple_entries : Entry 0 (triple_at m k).0 × Entry 1 (triple_at m k).1 × Entry 2 (triple_at m k).2
  triple_entries =
      let At : ℕ → ℕ → ℕ → Type 0 = λ i j x. (5 - m ≤ triple_entry (k + 10 - i) j) × (triple_entry (k + 10 - i) j - (5 - m) ≡ x) in
      let All : ℕ → Type 0 = λ i. At i 0 (triple_at m k).0 × At i 1 (triple_at m k).1 × At i 2 (triple_at m k).2 in
      let row = triple_row m k few l in
      subst All (sym same) (entry_from _ _ _ row.0, entry_from _ _ _ row.1, entry_from _ _ _ row.2)
