-- Pairs and triples of alternatives.
use Rattle.std.proofs.Common.{◌&&◌, ◌+◌, ◌++◌, ◌<◌, Bool, List, ap, ap₂, arith, cond, eq-eqb, eqb-true, false, filter, get_or, inl, inr, length, lt-ltb, ltb-true, map, not, refl, suc, sym, true, zero, ℕ, ◌∙◌, ◌∷◌, ◌≡◌, ◌||◌, []}
use Rattle.std.proofs.lemmas.Bool.{and_from, and_left, and_parts, both_ways, false_from_ne_true, not-true, or_cases, or_from, or_parts}
use Rattle.std.proofs.lemmas.List.Folds.{list_all-map, list_any-append}
use Rattle.std.specs.List.{flat_map, list_all, list_any, position_or_len}
use Rattle.std.specs.Prelude.{◌==◌, nat_lt}
use Rattle.lists.proofs.TestLaws.{all_read}
use Rattle.meaning.specs.Space.{below, up_from}
use Rattle.meaning.specs.Variables.{above_in, pair_place, pairs, triples}
use Rattle.meaning.proofs.InstanceLaws.{same_tests}
use Rattle.meaning.proofs.LiteralLaws.{unequal}
use Rattle.meaning.proofs.RankingLaws.{first_place}
use Rattle.meaning.proofs.SpaceLaws.{all_at, all_from}
use Rattle.meaning.proofs.TestLaws.{list_all-flat_map, none_passes}

-- ---- what passes at each pair and each triple

filter-at : (t q : ℕ → Bool) (xs : List ℕ) → list_all t (filter q xs) ≡ list_all (λ x. not (q x) || t x) xs
filter-at t q [] = refl
filter-at t q (x ∷ xs) = elim (q x) as (λ b. list_all t (cond b (x ∷ filter q xs) (filter q xs)) ≡ ((not b || t x) && list_all (λ y. not (q y) || t y) xs)) [
  | true ↦ ap (λ b. t x && b) (filter-at t q xs)
  | false ↦ filter-at t q xs
]

module _ (m : ℕ) where
  above-at : (t : ℕ → Bool) (x y : ℕ) → list_all t (above_in m x) ≡ true → x < y → y < m → t y ≡ true
  above-at t x y h lt l =
      let here = all_at (λ z. not (nat_lt x z) || t z) m 0 y (sym (filter-at t (nat_lt x) (below m)) ∙ h) (omega arith) (omega arith) in
      elim (or_cases (not (nat_lt x y)) (t y) here) [ inl e ↦ absurd (both_ways _ (not-true _ e) (lt-ltb x y lt)) | inr e ↦ e ]

  above-from : (t : ℕ → Bool) (x : ℕ) → ((y : ℕ) → x < y → y < m → t y ≡ true) → list_all t (above_in m x) ≡ true
  above-from t x h = filter-at t (nat_lt x) (below m) ∙ all_from (λ z. not (nat_lt x z) || t z) m 0 (λ y low high. cases y (omega arith) (nat_lt x y) refl)
    where
      cases : (y : ℕ) → y < m → (b : Bool) → nat_lt x y ≡ b → (not b || t y) ≡ true
      cases y l true e = h y (ltb-true x y e) l
      cases y l false e = refl

  pairs-are : (t : ℕ × ℕ → Bool) → list_all t (pairs m) ≡ list_all (λ x. list_all t (map (λ (y : ℕ). (x, y)) (above_in m x))) (below m)
  pairs-are t = list_all-flat_map t (λ (x : ℕ). map (λ (y : ℕ). (x, y)) (above_in m x)) (below m)

  pub pairs-at : (t : ℕ × ℕ → Bool) (x y : ℕ) → list_all t (pairs m) ≡ true → x < y → y < m → t (x, y) ≡ true
  pairs-at t x y h lt l =
      let here = all_at (λ w. list_all t (map (λ (z : ℕ). (w, z)) (above_in m w))) m 0 x (sym (pairs-are t) ∙ h) (omega arith) (omega arith) in
      above-at (λ z. t (x, z)) x y (sym (list_all-map t (λ (z : ℕ). (x, z)) (above_in m x)) ∙ here) lt l

  pub pairs-from : (t : ℕ × ℕ → Bool) → ((x y : ℕ) → x < y → y < m → t (x, y) ≡ true) → list_all t (pairs m) ≡ true
  pairs-from t h =
      pairs-are t ∙ all_from (λ w. list_all t (map (λ (z : ℕ). (w, z)) (above_in m w))) m 0 (λ x low high. list_all-map t (λ (z : ℕ). (x, z)) (above_in m x) ∙ above-from (λ z. t (x, z)) x (λ y lt l. h x y lt l))

  triples-are : (t : ℕ × ℕ × ℕ → Bool) → list_all t (triples m) ≡ list_all (λ (p : ℕ × ℕ). list_all t (map (λ (z : ℕ). (p.0, p.1, z)) (above_in m p.1))) (pairs m)
  triples-are t = list_all-flat_map t (λ (p : ℕ × ℕ). map (λ (z : ℕ). (p.0, p.1, z)) (above_in m p.1)) (pairs m)

  pub triples-at : (t : ℕ × ℕ × ℕ → Bool) (x y z : ℕ) → list_all t (triples m) ≡ true → x < y → y < z → z < m → t (x, y, z) ≡ true
  triples-at t x y z h lt lt' l =
      let here = pairs-at (λ (p : ℕ × ℕ). list_all t (map (λ (w : ℕ). (p.0, p.1, w)) (above_in m p.1))) x y (sym (triples-are t) ∙ h) lt (omega arith) in
      above-at (λ w. t (x, y, w)) y z (sym (list_all-map t (λ (w : ℕ). (x, y, w)) (above_in m y)) ∙ here) lt' l

  pub triples-from : (t : ℕ × ℕ × ℕ → Bool) → ((x y z : ℕ) → x < y → y < z → z < m → t (x, y, z) ≡ true) → list_all t (triples m) ≡ true
  triples-from t h =
      triples-are t ∙ pairs-from (λ (p : ℕ × ℕ). list_all t (map (λ (w : ℕ). (p.0, p.1, w)) (above_in m p.1))) (λ x y lt l. list_all-map t (λ (w : ℕ). (x, y, w)) (above_in m y) ∙ above-from (λ w. t (x, y, w)) y (λ z lt' l'. h x y z lt lt' l'))

-- tests that agree at each pair, or each triple, agree on all
pub pairs-same : (m : ℕ) (t u : ℕ × ℕ → Bool) → ((x y : ℕ) → x < y → y < m → t (x, y) ≡ u (x, y)) → list_all t (pairs m) ≡ list_all u (pairs m)
pairs-same m t u h =
    same_tests _ _ (λ e. pairs-from m u (λ x y lt l. sym (h x y lt l) ∙ pairs-at m t x y e lt l)) (λ e. pairs-from m t (λ x y lt l. h x y lt l ∙ pairs-at m u x y e lt l))

pub triples-same : (m : ℕ) (t u : ℕ × ℕ × ℕ → Bool) → ((x y z : ℕ) → x < y → y < z → z < m → t (x, y, z) ≡ u (x, y, z)) → list_all t (triples m) ≡ list_all u (triples m)
triples-same m t u h =
    same_tests _ _ (λ e. triples-from m u (λ x y z lt lt' l. sym (h x y z lt lt' l) ∙ triples-at m t x y z e lt lt' l)) (λ e. triples-from m t (λ x y z lt lt' l. h x y z lt lt' l ∙ triples-at m u x y z e lt lt' l))

-- ---- the place of a pair

module _ (m : ℕ) where
  pub pair_found : (x y : ℕ) → x < y → y < m → (pair_place m x y < length (pairs m)) × (((get_or (pairs m) (pair_place m x y) (0, 0)).0 == x && (get_or (pairs m) (pair_place m x y) (0, 0)).1 == y) ≡ true)
  pair_found x y lt l = first_place (λ (p : ℕ × ℕ). p.0 == x && p.1 == y) (0, 0) (pairs m) (some (list_any (λ (p : ℕ × ℕ). p.0 == x && p.1 == y) (pairs m)) refl)
    where
      some : (b : Bool) → list_any (λ (p : ℕ × ℕ). p.0 == x && p.1 == y) (pairs m) ≡ b → list_any (λ (p : ℕ × ℕ). p.0 == x && p.1 == y) (pairs m) ≡ true
      some true e = e
      some false e =
          let here = pairs-at m (λ (p : ℕ × ℕ). not (p.0 == x && p.1 == y)) x y (none_passes (λ (p : ℕ × ℕ). p.0 == x && p.1 == y) (pairs m) e) lt l in
          absurd (both_ways _ (not-true _ here) (and_from _ _ (eq-eqb x x refl) (eq-eqb y y refl)))

-- ---- no pair stands twice

abbrev is_pair : ℕ × ℕ → ℕ × ℕ → Bool
is_pair p q = q.0 == p.0 && q.1 == p.1

abbrev Once : List (ℕ × ℕ) → Type 0
Once [] = Unit {0}
Once (p ∷ ps) = (list_any (is_pair p) ps ≡ false) × Once ps

Once-append : (xs ys : List (ℕ × ℕ)) → Once xs → Once ys → list_all (λ p. not (list_any (is_pair p) ys)) xs ≡ true → Once (xs ++ ys)
Once-append [] ys h k d = k
Once-append (x ∷ xs) ys h k d =
    let e = and_parts (not (list_any (is_pair x) ys)) (list_all (λ p. not (list_any (is_pair p) ys)) xs) d in
    (list_any-append (is_pair x) xs ys ∙ or_from _ _ h.0 (not-true _ e.0), Once-append xs ys h.1 k e.1)

-- a pair of a row stands in no later place of it
not_in_row : (x a : ℕ) (t : ℕ → Bool) (n b : ℕ) → a < b → list_any (is_pair (x, a)) (map (λ (y : ℕ). (x, y)) (filter t (up_from b n))) ≡ false
not_in_row x a t zero b lt = refl
not_in_row x a t (suc n) b lt =
    elim (t b) as (λ c. list_any (is_pair (x, a)) (map (λ (y : ℕ). (x, y)) (cond c (b ∷ filter t (up_from (suc b) n)) (filter t (up_from (suc b) n)))) ≡ false) [
      | true ↦ (let l : (x == x && b == a) ≡ false = ap₂ (λ c d. c && d) (eq-eqb x x refl) (unequal a b lt).1 in or_from _ _ l (not_in_row x a t n (suc b) (omega (arith, lt))))
      | false ↦ not_in_row x a t n (suc b) (omega (arith, lt))
    ]

row_once : (x : ℕ) (t : ℕ → Bool) (n b : ℕ) → Once (map (λ (y : ℕ). (x, y)) (filter t (up_from b n)))
row_once x t zero b = tt
row_once x t (suc n) b =
    elim (t b) as (λ c. Once (map (λ (y : ℕ). (x, y)) (cond c (b ∷ filter t (up_from (suc b) n)) (filter t (up_from (suc b) n))))) [
      | true ↦ (not_in_row x b t n (suc b) (omega arith), row_once x t n (suc b))
      | false ↦ row_once x t n (suc b)
    ]

module _ (m : ℕ) where
  abbrev row : ℕ → List (ℕ × ℕ)
  row x = map (λ (y : ℕ). (x, y)) (above_in m x)

  other_row : (p : ℕ × ℕ) (x : ℕ) → (x == p.0) ≡ false → (ys : List ℕ) → list_any (is_pair p) (map (λ (y : ℕ). (x, y)) ys) ≡ false
  other_row p x ne [] = refl
  other_row p x ne (y ∷ ys) = or_from _ _ (and_left _ _ ne) (other_row p x ne ys)

  later_rows : (p : ℕ × ℕ) (n b : ℕ) → p.0 < b → list_any (is_pair p) (flat_map row (up_from b n)) ≡ false
  later_rows p zero b lt = refl
  later_rows p (suc n) b lt =
      list_any-append (is_pair p) (row b) (flat_map row (up_from (suc b) n)) ∙ or_from _ _ (other_row p b (unequal p.0 b lt).1 (above_in m b)) (later_rows p n (suc b) (omega (arith, lt)))

  none_later : (x : ℕ) (n : ℕ) (ys : List ℕ) → list_all (λ p. not (list_any (is_pair p) (flat_map row (up_from (suc x) n)))) (map (λ (y : ℕ). (x, y)) ys) ≡ true
  none_later x n [] = refl
  none_later x n (y ∷ ys) = and_from _ _ (ap not (later_rows (x, y) n (suc x) (omega arith))) (none_later x n ys)

  rows_once : (n b : ℕ) → Once (flat_map row (up_from b n))
  rows_once zero b = tt
  rows_once (suc n) b = Once-append (row b) (flat_map row (up_from (suc b) n)) (row_once b (nat_lt b) m 0) (rows_once n (suc b)) (none_later b n (above_in m b))

not_at : (p : ℕ × ℕ) (ps : List (ℕ × ℕ)) (k : ℕ) → k < length ps → list_any (is_pair p) ps ≡ false → is_pair (get_or ps k (0, 0)) p ≡ false
not_at p [] k l h = absurd (omega arith)
not_at p (q ∷ ps) zero l h = let e = or_parts (is_pair p q) (list_any (is_pair p) ps) h in false_from_ne_true _ (λ f. both_ways _ e.0 (turned p q f))
  where
    turned : (a b : ℕ × ℕ) → is_pair b a ≡ true → is_pair a b ≡ true
    turned a b g = let e = and_parts (a.0 == b.0) (a.1 == b.1) g in and_from _ _ (eq-eqb _ _ (sym (eqb-true _ _ e.0))) (eq-eqb _ _ (sym (eqb-true _ _ e.1)))
not_at p (q ∷ ps) (suc k) l h = let e = or_parts (is_pair p q) (list_any (is_pair p) ps) h in not_at p ps k (omega (arith, l)) e.1

place_at : (ps : List (ℕ × ℕ)) (k : ℕ) → Once ps → k < length ps → position_or_len (is_pair (get_or ps k (0, 0))) ps ≡ k
place_at [] k h l = absurd (omega arith)
place_at (p ∷ ps) zero h l = ap (λ b. cond (not b) (1 + position_or_len (is_pair p) ps) 0) (and_from _ _ (eq-eqb p.0 p.0 refl) (eq-eqb p.1 p.1 refl))
place_at (p ∷ ps) (suc k) h l =
    ap (λ b. cond (not b) (1 + position_or_len (is_pair (get_or ps k (0, 0))) ps) 0) (not_at p ps k (omega (arith, l)) h.0) ∙ omega (arith, place_at ps k h.1 (omega (arith, l)))

abbrev pub pair_at : ℕ → ℕ → ℕ × ℕ
pair_at m k = get_or (pairs m) k (0, 0)

-- the pair at a place has that place
pub place_of_pair : (m k : ℕ) → k < length (pairs m) → pair_place m (pair_at m k).0 (pair_at m k).1 ≡ k
place_of_pair m k l = place_at (pairs m) k (rows_once m m 0) l

-- the pair at a place rises, below m
pub pair_rises : (m k : ℕ) → k < length (pairs m) → ((pair_at m k).0 < (pair_at m k).1) × ((pair_at m k).1 < m)
pair_rises m k l =
    let h = all_read (λ (p : ℕ × ℕ). nat_lt p.0 p.1 && nat_lt p.1 m) (pairs m) k (0, 0) l (pairs-from m (λ (p : ℕ × ℕ). nat_lt p.0 p.1 && nat_lt p.1 m) (λ x y lt l'. and_from _ _ (lt-ltb x y lt) (lt-ltb y m l'))) in
    let e = and_parts (nat_lt (pair_at m k).0 (pair_at m k).1) (nat_lt (pair_at m k).1 m) h in
    (ltb-true _ _ e.0, ltb-true _ _ e.1)
