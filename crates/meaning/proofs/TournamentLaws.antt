-- A transitive choice between any two alternatives is one ranking: the one that sorts them by it.
use Rattle.std.proofs.Common.{◌+◌, ◌<◌, Bool, List, ap, ap₂, arith, cond, eq-eqb, eqb-true, false, inl, inr, le-ltb, length, lt-ltb, ltb-true, not, refl, subst, suc, sym, true, true≢false, ℕ, ◌∙◌, ◌∷◌, ◌≡◌, ◌||◌, []}
use Rattle.std.proofs.lemmas.Bool.{and_from, and_parts, both_ways, false_from_ne_true, not-true, or_cases, or_left, or_parts, or_right}
use Rattle.std.specs.List.{list_all}
use Rattle.std.specs.Prelude.{◌==◌, nat_lt}
use Rattle.vocab.specs.Size.{factorial}
use Rattle.meaning.specs.Rankings.{IsRanking, contains, is_distinct}
use Rattle.meaning.specs.Space.{below, is_above, place, ranking, ranking_number}
use Rattle.meaning.proofs.InstanceLaws.{same_tests}
use Rattle.meaning.proofs.LiteralLaws.{differ}
use Rattle.meaning.proofs.RankingLaws.{are_rankings, distinct-up_from, none_of, not_in}
use Rattle.meaning.proofs.SpaceLaws.{all_from, length-up_from, one_is_above, ranking-contains}

-- a test that all numbers of a list pass is passed by each that stands there
all_test-at : (t : ℕ → Bool) (x : ℕ) (xs : List ℕ) → list_all t xs ≡ true → contains x xs ≡ true → t x ≡ true
all_test-at t x [] h c = absurd (true≢false (sym c))
all_test-at t x (y ∷ ys) h c =
    let e = and_parts (t y) (list_all t ys) h in
    elim (or_cases (y == x) (contains x ys) c) [ inl same ↦ subst (λ z. t z ≡ true) (eqb-true y x same) e.0 | inr later ↦ all_test-at t x ys e.1 later ]

module _ (m : ℕ) (r : ℕ → ℕ → Bool) where
  abbrev insert_by : ℕ → List ℕ → List ℕ
  insert_by x [] = x ∷ []
  insert_by x (y ∷ ys) = cond (r x y) (x ∷ y ∷ ys) (y ∷ insert_by x ys)

  abbrev sort_by : List ℕ → List ℕ
  sort_by [] = []
  sort_by (x ∷ xs) = insert_by x (sort_by xs)

  length-insert : (x : ℕ) (ys : List ℕ) → length (insert_by x ys) ≡ suc (length ys)
  length-insert x [] = refl
  length-insert x (y ∷ ys) = elim (r x y) as (λ b. length (cond b (x ∷ y ∷ ys) (y ∷ insert_by x ys)) ≡ suc (suc (length ys))) [ true ↦ refl | false ↦ ap suc (length-insert x ys) ]

  length-sort : (xs : List ℕ) → length (sort_by xs) ≡ length xs
  length-sort [] = refl
  length-sort (x ∷ xs) = length-insert x (sort_by xs) ∙ ap suc (length-sort xs)

  all-insert : (t : ℕ → Bool) (x : ℕ) (ys : List ℕ) → t x ≡ true → list_all t ys ≡ true → list_all t (insert_by x ys) ≡ true
  all-insert t x [] h k = and_from _ _ h refl
  all-insert t x (y ∷ ys) h k =
      let e = and_parts (t y) (list_all t ys) k in
      elim (r x y) as (λ b. list_all t (cond b (x ∷ y ∷ ys) (y ∷ insert_by x ys)) ≡ true) [ true ↦ and_from _ _ h k | false ↦ and_from _ _ e.0 (all-insert t x ys h e.1) ]

  all-sort : (t : ℕ → Bool) (xs : List ℕ) → list_all t xs ≡ true → list_all t (sort_by xs) ≡ true
  all-sort t [] h = refl
  all-sort t (x ∷ xs) h = let e = and_parts (t x) (list_all t xs) h in all-insert t x (sort_by xs) e.0 (all-sort t xs e.1)

  distinct-insert : (x : ℕ) (ys : List ℕ) → contains x ys ≡ false → is_distinct ys ≡ true → is_distinct (insert_by x ys) ≡ true
  distinct-insert x [] h k = refl
  distinct-insert x (y ∷ ys) h k =
      let e = and_parts (not (contains y ys)) (is_distinct ys) k in
      let f = or_parts (y == x) (contains x ys) h in
      elim (r x y) as (λ b. is_distinct (cond b (x ∷ y ∷ ys) (y ∷ insert_by x ys)) ≡ true) [
        | true ↦ and_from _ _ (ap not h) k
        | false ↦ and_from _ _ (ap not (not_in y _ (all-insert (λ z. not (z == y)) x ys (ap not (differ y x f.0)) (none_of y ys (not-true _ e.0))))) (distinct-insert x ys f.1 e.1)
      ]

  distinct-sort : (xs : List ℕ) → is_distinct xs ≡ true → is_distinct (sort_by xs) ≡ true
  distinct-sort [] h = refl
  distinct-sort (x ∷ xs) h =
      let e = and_parts (not (contains x xs)) (is_distinct xs) h in
      distinct-insert x (sort_by xs) (not_in x _ (all-sort (λ z. not (z == x)) xs (none_of x xs (not-true _ e.0)))) (distinct-sort xs e.1)

  -- each stands above all later ones
  abbrev Ordered : List ℕ → Type 0
  Ordered [] = Unit {0}
  Ordered (x ∷ xs) = (list_all (r x) xs ≡ true) × Ordered xs

  -- what stands before another one in an ordered list is above it
  before : (x y : ℕ) (s : List ℕ) → Ordered s → contains y s ≡ true → (x == y) ≡ false → place s x < place s y → r x y ≡ true
  before x y [] h c ne lt = absurd (true≢false (sym c))
  before x y (z ∷ zs) h c ne lt = cases (z == x) (z == y) refl refl lt (before x y zs h.1)
    where
      cases : (a b : Bool) → (z == x) ≡ a → (z == y) ≡ b → cond (not a) (1 + place zs x) 0 < cond (not b) (1 + place zs y) 0 → (contains y zs ≡ true → (x == y) ≡ false → place zs x < place zs y → r x y ≡ true) → r x y ≡ true
      cases true true e f l ih = absurd (both_ways _ ne (eq-eqb x y (sym (eqb-true z x e) ∙ eqb-true z y f)))
      cases true false e f l ih =
          let later : contains y zs ≡ true = elim (or_cases (z == y) (contains y zs) c) [ inl g ↦ absurd (both_ways _ f g) | inr g ↦ g ] in
          subst (λ (w : ℕ). r w y ≡ true) (eqb-true z x e) (all_test-at (r z) y zs h.0 later)
      cases false true e f l ih = absurd (omega (arith, l))
      cases false false e f l ih =
          let later : contains y zs ≡ true = elim (or_cases (z == y) (contains y zs) c) [ inl g ↦ absurd (both_ways _ f g) | inr g ↦ g ] in
          ih later ne (omega (arith, l))

  module _ (two_sided : (x y : ℕ) → x < m → y < m → (x == y) ≡ false → r y x ≡ not (r x y)) (goes_on : (x y z : ℕ) → x < m → y < m → z < m → (x == y) ≡ false → (y == z) ≡ false → (x == z) ≡ false → r x y ≡ true → r y z ≡ true → r x z ≡ true) where
    above_all : (x y : ℕ) (ys : List ℕ) → x < m → y < m → (x == y) ≡ false → r x y ≡ true → contains x ys ≡ false → contains y ys ≡ false → list_all (λ z. nat_lt z m) ys ≡ true → list_all (r y) ys ≡ true → list_all (r x) ys ≡ true
    above_all x y [] in_x in_y ne h new_x new_y in_ys k = refl
    above_all x y (z ∷ zs) in_x in_y ne h new_x new_y in_ys k =
        let a = or_parts (z == x) (contains x zs) new_x in
        let b = or_parts (z == y) (contains y zs) new_y in
        let c = and_parts (nat_lt z m) (list_all (λ w. nat_lt w m) zs) in_ys in
        let d = and_parts (r y z) (list_all (r y) zs) k in
        and_from _ _ (goes_on x y z in_x in_y (ltb-true z m c.0) ne (differ z y b.0) (differ z x a.0) h d.0) (above_all x y zs in_x in_y ne h a.1 b.1 c.1 d.1)

    ordered-insert : (x : ℕ) (ys : List ℕ) → x < m → list_all (λ z. nat_lt z m) ys ≡ true → contains x ys ≡ false → is_distinct ys ≡ true → Ordered ys → Ordered (insert_by x ys)
    ordered-insert x [] in_x in_ys new distinct h = (refl, tt)
    ordered-insert x (y ∷ ys) in_x in_ys new distinct h = cases (ordered-insert x ys in_x c.1 f.1 e.1 h.1) (r x y) refl
      where
        c : (nat_lt y m ≡ true) × (list_all (λ z. nat_lt z m) ys ≡ true)
        c = and_parts (nat_lt y m) (list_all (λ z. nat_lt z m) ys) in_ys

        e : (not (contains y ys) ≡ true) × (is_distinct ys ≡ true)
        e = and_parts (not (contains y ys)) (is_distinct ys) distinct

        f : ((y == x) ≡ false) × (contains x ys ≡ false)
        f = or_parts (y == x) (contains x ys) new

        in_y : y < m
        in_y = ltb-true y m c.0

        ne : (x == y) ≡ false
        ne = differ y x f.0

        cases : Ordered (insert_by x ys) → (b : Bool) → r x y ≡ b → Ordered (cond b (x ∷ y ∷ ys) (y ∷ insert_by x ys))
        cases ih true g = (and_from _ _ g (above_all x y ys in_x in_y ne g f.1 (not-true _ e.0) c.1 h.0), h)
        cases ih false g = (all-insert (r y) x ys (two_sided x y in_x in_y ne ∙ ap not g) h.0, ih)

    ordered-sort : (xs : List ℕ) → list_all (λ z. nat_lt z m) xs ≡ true → is_distinct xs ≡ true → Ordered (sort_by xs)
    ordered-sort [] in_xs distinct = tt
    ordered-sort (x ∷ xs) in_xs distinct =
        let c = and_parts (nat_lt x m) (list_all (λ z. nat_lt z m) xs) in_xs in
        let e = and_parts (not (contains x xs)) (is_distinct xs) distinct in
        ordered-insert x (sort_by xs) (ltb-true x m c.0) (all-sort (λ z. nat_lt z m) xs c.1) (not_in x _ (all-sort (λ z. not (z == x)) xs (none_of x xs (not-true _ e.0)))) (distinct-sort xs e.1) (ordered-sort xs c.1 e.1)

    all_below : list_all (λ z. nat_lt z m) (below m) ≡ true
    all_below = all_from (λ z. nat_lt z m) m 0 (λ v low high. lt-ltb v m (omega arith))

    sorted_is : IsRanking m (sort_by (below m))
    sorted_is = record {
      size = length-sort (below m) ∙ length-up_from 0 m;
      in_range = all-sort (λ z. nat_lt z m) (below m) all_below;
      distinct = distinct-sort (below m) (distinct-up_from 0 m);
    }

    -- the ranking of the choices
    pub the_ranking : (o : ℕ) × (o < factorial m) × ((x y : ℕ) → x < m → y < m → (x == y) ≡ false → r x y ≡ is_above (ranking m o) x y)
    the_ranking =
        let found = (are_rankings m).every (sort_by (below m)) sorted_is in
        (ranking_number m (sort_by (below m)), found.0, λ x y in_x in_y ne. same (ranking_number m (sort_by (below m))) found.0 found.1 x y in_x in_y ne)
      where
        same : (o : ℕ) → o < factorial m → ranking m o ≡ sort_by (below m) → (x y : ℕ) → x < m → y < m → (x == y) ≡ false → r x y ≡ is_above (ranking m o) x y
        same o in_o is x y in_x in_y ne =
            let ordered : Ordered (ranking m o) = subst Ordered (sym is) (ordered-sort (below m) all_below (distinct-up_from 0 m)) in
            let has_x = ranking-contains m x o in_x in_o in
            let has_y = ranking-contains m y o in_y in_o in
            sym (same_tests (is_above (ranking m o) x y) (r x y)
            (λ a. before x y (ranking m o) ordered has_y ne (ltb-true _ _ a))
            (λ a. one_is_above (ranking m o) x y (λ e. both_ways _ ne (eq-eqb x y e)) has_x has_y (false_from_ne_true _ (λ b.
            both_ways _ (two_sided x y in_x in_y ne ∙ ap not a) (before y x (ranking m o) ordered has_x (differ x y ne) (ltb-true _ _ b))))))

-- ---- a ranking is what it has above what

place-tail : (z x : ℕ) (r : List ℕ) → (z == x) ≡ false → place (z ∷ r) x ≡ 1 + place r x
place-tail z x r h = ap (λ b. cond (not b) (1 + place r x) 0) h

place-head : (x : ℕ) (r : List ℕ) → place (x ∷ r) x ≡ 0
place-head x r = ap (λ b. cond (not b) (1 + place r x) 0) (eq-eqb x x refl)

lt_more : (p q : ℕ) → nat_lt (1 + p) (1 + q) ≡ nat_lt p q
lt_more p q =
    same_tests _ _
    (λ e. let lt : 1 + p < 1 + q = ltb-true (1 + p) (1 + q) e in lt-ltb p q (omega arith))
    (λ e. let lt : p < q = ltb-true p q e in lt-ltb (1 + p) (1 + q) (omega arith))

is_above-tail : (z x y : ℕ) (r : List ℕ) → (z == x) ≡ false → (z == y) ≡ false → is_above (z ∷ r) x y ≡ is_above r x y
is_above-tail z x y r h k = ap₂ nat_lt (place-tail z x r h) (place-tail z y r k) ∙ lt_more (place r x) (place r y)

-- the same numbers stand in two lists
abbrev SameMembers : List ℕ → List ℕ → Type 0
SameMembers r s = (x : ℕ) → contains x r ≡ contains x s

-- in the same order
abbrev SameOrder : List ℕ → List ℕ → Type 0
SameOrder r s = (x y : ℕ) → contains x r ≡ true → contains y r ≡ true → (x == y) ≡ false → is_above r x y ≡ is_above s x y

-- two lists of the same numbers, each once, in the same order are one
same_lists : (r s : List ℕ) → length r ≡ length s → is_distinct r ≡ true → is_distinct s ≡ true → SameMembers r s → SameOrder r s → r ≡ s
same_lists [] [] e dr ds members order = refl
same_lists [] (y ∷ s) e dr ds members order = absurd (omega (arith, e))
same_lists (x ∷ r) [] e dr ds members order = absurd (omega (arith, e))
same_lists (x ∷ r) (y ∷ s) e dr ds members order = cases (same_lists r s (omega (arith, e)) pr.1 ps.1) (x == y) refl
  where
    pr : (not (contains x r) ≡ true) × (is_distinct r ≡ true)
    pr = and_parts (not (contains x r)) (is_distinct r) dr

    ps : (not (contains y s) ≡ true) × (is_distinct s ≡ true)
    ps = and_parts (not (contains y s)) (is_distinct s) ds

    -- a number of the rest is not the first
    later : (z : ℕ) → contains z r ≡ true → (x == z) ≡ false
    later z c = false_from_ne_true _ (λ f. both_ways _ (not-true _ pr.0) (subst (λ w. contains w r ≡ true) (sym (eqb-true x z f)) c))

    rest_members : x ≡ y → SameMembers r s
    rest_members same z = by_first (x == z) refl
      where
        by_first : (b : Bool) → (x == z) ≡ b → contains z r ≡ contains z s
        by_first true f =
            let is : x ≡ z = eqb-true x z f in
            subst (λ w. contains w r ≡ false) is (not-true _ pr.0) ∙ sym (subst (λ w. contains w s ≡ false) (sym same ∙ is) (not-true _ ps.0))
        by_first false f =
            ap (λ b. b || contains z r) (sym f) ∙ members z ∙ ap (λ b. b || contains z s) (ap (λ w. w == z) (sym same) ∙ f)

    rest_order : x ≡ y → SameOrder r s
    rest_order same a b in_a in_b ne =
        let fa = later a in_a in
        let fb = later b in_b in
        sym (is_above-tail x a b r fa fb) ∙ order a b (or_right _ _ in_a) (or_right _ _ in_b) ne
        ∙ is_above-tail y a b s (ap (λ w. w == a) (sym same) ∙ fa) (ap (λ w. w == b) (sym same) ∙ fb)

    cases : (SameMembers r s → SameOrder r s → r ≡ s) → (b : Bool) → (x == y) ≡ b → x ∷ r ≡ y ∷ s
    cases rest true f = let same : x ≡ y = eqb-true x y f in ap₂ (λ (z : ℕ) (zs : List ℕ). z ∷ zs) same (rest (rest_members same) (rest_order same))
    cases rest false f =
        let in_x : contains x (x ∷ r) ≡ true = or_left _ _ (eq-eqb x x refl) in
        let in_y : contains y (x ∷ r) ≡ true = members y ∙ or_left _ _ (eq-eqb y y refl) in
        let first : is_above (x ∷ r) x y ≡ true = ap₂ nat_lt (place-head x r) (place-tail x y r f) ∙ lt-ltb 0 (1 + place r y) (omega arith) in
        let last : is_above (y ∷ s) x y ≡ false = ap₂ nat_lt (place-tail y x s (differ x y f)) (place-head y s) ∙ le-ltb (1 + place s x) 0 (omega arith) in
        absurd (both_ways _ last (sym (order x y in_x in_y f) ∙ first))

-- two rankings that have the same above the same are one
pub one_ranking : (m o q : ℕ) → o < factorial m → q < factorial m → ((x y : ℕ) → x < m → y < m → (x == y) ≡ false → is_above (ranking m o) x y ≡ is_above (ranking m q) x y) → o ≡ q
one_ranking m o q in_o in_q order =
    let first = (are_rankings m).each o in_o in
    let second = (are_rankings m).each q in_q in
    let same : ranking m o ≡ ranking m q =
    same_lists (ranking m o) (ranking m q) (first.size ∙ sym second.size) first.distinct second.distinct
    (λ x. same_tests _ _ (λ c. ranking-contains m x q (below_m o in_o x c) in_q) (λ c. ranking-contains m x o (below_m q in_q x c) in_o))
    (λ x y in_x in_y ne. order x y (below_m o in_o x in_x) (below_m o in_o y in_y) ne) in
    sym ((are_rankings m).numbered o in_o) ∙ ap (ranking_number m) same ∙ (are_rankings m).numbered q in_q
  where
    below_m : (b : ℕ) → b < factorial m → (x : ℕ) → contains x (ranking m b) ≡ true → x < m
    below_m b in_b x c = ltb-true x m (all_test-at (λ z. nat_lt z m) x (ranking m b) ((are_rankings m).each b in_b).in_range c)
