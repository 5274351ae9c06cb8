-- The ballots of a size: what a test keeps of the numbers from one to another, in order.
use Rattle.std.proofs.Common.{◌≡◌, refl, sym, ◌∙◌, ap, subst, ℕ, zero, suc, ◌+◌, ◌-◌, ◌<◌, ◌≤◌, Bool, true, false, cond, inl, inr, List, [], ◌∷◌, ◌++◌, length, filter, get_or, arith, eqb-true, eq-eqb, true≢false}
use Rattle.std.specs.Prelude.{◌==◌, slice_get, Some}
use Rattle.std.specs.List.{list_any}
use Rattle.std.specs.Option.{option_map_or}
use Rattle.std.proofs.lemmas.Bool.{cases_order, or_left, or_right}
use Rattle.std.proofs.lemmas.Option.{slice_get-get_or, slice_get_past}
use Rattle.vocab.proofs.Ranges.{kept-more}
use Rattle.std.proofs.lemmas.List.{append-nil}
use Rattle.std.proofs.lemmas.Nat.Bits.{bit_at_above}
use Rattle.vocab.specs.Size.{Extent, IsSize, ballot_count, ballot_places, factorial, has_all_ballots, is_digit_set}
use Rattle.meaning.specs.Space.{up_from, below, ranking, ranking_number, ranking_at, ballot_ranking, ballot_number, cast_swapped, place_swapped}
use Rattle.meaning.specs.Rankings.{AreBallots, IsRanking, comes_before}
use Rattle.meaning.proofs.RankingLaws.{are_rankings, first_place, any_number}

abbrev kept : (ℕ → Bool) → ℕ → ℕ → List ℕ
kept t a n = filter t (up_from a n)

pub kept_short : (t : ℕ → Bool) (n a : ℕ) → length (kept t a n) ≤ n
kept_short t zero a = omega arith
kept_short t (suc n) a = cases (kept_short t n (suc a)) (t a)
  where
    cases : length (kept t (suc a) n) ≤ n → (s : Bool) → length (cond s (a ∷ kept t (suc a) n) (kept t (suc a) n)) ≤ suc n
    cases ih true = omega (arith, ih)
    cases ih false = omega (arith, ih)

-- what stands in the list
kept_at : (t : ℕ → Bool) (n a b : ℕ) → b < length (kept t a n) → (a ≤ get_or (kept t a n) b 0) × (get_or (kept t a n) b 0 < a + n) × (t (get_or (kept t a n) b 0) ≡ true)
kept_at t zero a b h = absurd (omega arith)
kept_at t (suc n) a b h = cases (kept_at t n (suc a)) (t a) refl b h
  where
    cases : ((i : ℕ) → i < length (kept t (suc a) n) → (suc a ≤ get_or (kept t (suc a) n) i 0) × (get_or (kept t (suc a) n) i 0 < suc a + n) × (t (get_or (kept t (suc a) n) i 0) ≡ true)) → (s : Bool) → t a ≡ s → (i : ℕ) → i < length (cond s (a ∷ (kept t (suc a) n)) (kept t (suc a) n))
        → (a ≤ get_or (cond s (a ∷ (kept t (suc a) n)) (kept t (suc a) n)) i 0) × (get_or (cond s (a ∷ (kept t (suc a) n)) (kept t (suc a) n)) i 0 < a + suc n) × (t (get_or (cond s (a ∷ (kept t (suc a) n)) (kept t (suc a) n)) i 0) ≡ true)
    cases ih true e zero l = (omega arith, omega arith, e)
    cases ih true e (suc i) l = let r = ih i (omega (arith, l)) in (omega (arith, r.0), omega (arith, r.1), r.2)
    cases ih false e i l = let r = ih i l in (omega (arith, r.0), omega (arith, r.1), r.2)

-- a range that ends where nothing more passes
pub kept_past : (t : ℕ → Bool) (n more : ℕ) → ((j : ℕ) → n ≤ j → t j ≡ false) → filter t (below (n + more)) ≡ filter t (below n)
kept_past t n zero none = let same : n + 0 ≡ n = omega arith in ap (λ k. filter t (below k)) same
kept_past t n (suc more) none =
    let next : n + suc more ≡ n + more + 1 = omega arith in
    ap (λ k. filter t (below k)) next ∙ kept-more t (n + more) ∙ ap (λ b. filter t (below (n + more)) ++ cond b ((n + more) ∷ []) []) (none (n + more) (omega arith)) ∙ append-nil (filter t (below (n + more))) ∙ kept_past t n more none

-- it rises
kept_rises : (t : ℕ → Bool) (n a b c : ℕ) → b < c → c < length (kept t a n) → get_or (kept t a n) b 0 < get_or (kept t a n) c 0
kept_rises t zero a b c lt h = absurd (omega arith)
kept_rises t (suc n) a b c lt h = cases (kept_rises t n (suc a)) (t a) b c lt h
  where
    cases : ((i j : ℕ) → i < j → j < length (kept t (suc a) n) → get_or (kept t (suc a) n) i 0 < get_or (kept t (suc a) n) j 0) → (s : Bool) (i j : ℕ) → i < j → j < length (cond s (a ∷ (kept t (suc a) n)) (kept t (suc a) n))
        → get_or (cond s (a ∷ (kept t (suc a) n)) (kept t (suc a) n)) i 0 < get_or (cond s (a ∷ (kept t (suc a) n)) (kept t (suc a) n)) j 0
    cases ih true i zero lt l = absurd (omega arith)
    cases ih true zero (suc j) lt l = let r = kept_at t n (suc a) j (omega (arith, l)) in omega (arith, r.0)
    cases ih true (suc i) (suc j) lt l = ih i j (omega arith) (omega (arith, l))
    cases ih false i j lt l = ih i j lt l

-- it has each number that passes
kept_has : (t : ℕ → Bool) (n a v : ℕ) → a ≤ v → v < a + n → t v ≡ true → list_any (λ k. k == v) (kept t a n) ≡ true
kept_has t zero a v low high h = absurd (omega arith)
kept_has t (suc n) a v low high h = cases (λ lt. kept_has t n (suc a) v lt (omega arith) h) (t a) refl
  where
    cases : (suc a ≤ v → list_any (λ k. k == v) (kept t (suc a) n) ≡ true) → (s : Bool) → t a ≡ s → list_any (λ k. k == v) (cond s (a ∷ (kept t (suc a) n)) (kept t (suc a) n)) ≡ true
    cases ih true e = elim (cases_order a v) [
      | inl same ↦ or_left _ _ (eq-eqb a v same)
      | inr other ↦ or_right _ _ (elim other [ inl lt ↦ ih lt | inr gt ↦ absurd (omega arith) ])
    ]
    cases ih false e = elim (cases_order a v) [
      | inl same ↦ absurd (true≢false (sym h ∙ ap t (sym same) ∙ e))
      | inr other ↦ elim other [ inl lt ↦ ih lt | inr gt ↦ absurd (omega arith) ]
    ]

-- where all are kept, these are the numbers themselves
kept_all : (t : ℕ → Bool) (n a : ℕ) → length (kept t a n) ≡ n → kept t a n ≡ up_from a n
kept_all t zero a h = refl
kept_all t (suc n) a h = cases (kept_all t n (suc a)) (t a) h
  where
    cases : (length (kept t (suc a) n) ≡ n → (kept t (suc a) n) ≡ up_from (suc a) n) → (s : Bool) → length (cond s (a ∷ (kept t (suc a) n)) (kept t (suc a) n)) ≡ suc n → cond s (a ∷ (kept t (suc a) n)) (kept t (suc a) n) ≡ up_from a (suc n)
    cases ih true e = ap (λ (xs : List ℕ). a ∷ xs) (ih (omega (arith, e)))
    cases ih false e = absurd (omega (arith, e, kept_short t n (suc a)))

pub up_from_at : (n a b : ℕ) → b < n → get_or (up_from a n) b 0 ≡ a + b
up_from_at zero a b h = absurd (omega arith)
up_from_at (suc n) a zero h = omega arith
up_from_at (suc n) a (suc b) h = omega (arith, up_from_at n (suc a) b (omega arith))

module _ (size : Extent) where
  abbrev m : ℕ
  m = size.alternatives

  abbrev places : List ℕ
  places = ballot_places size

  abbrev t : ℕ → Bool
  t = is_digit_set size.ballots

  -- the place of a ballot
  pub place_of_ballot : (b : ℕ) → b < ballot_count size → slice_get places b ≡ Some (get_or places b 0)
  place_of_ballot b l = slice_get-get_or places b 0 l

  pub place_below : (b : ℕ) → b < ballot_count size → get_or places b 0 < factorial m
  place_below b l = let r = kept_at t (factorial m) 0 b l in omega (arith, r.1)

  pub ranking_of_ballot : (b : ℕ) → b < ballot_count size → ballot_ranking size b ≡ ranking m (get_or places b 0)
  ranking_of_ballot b l = ap (ranking_at m) (place_of_ballot b l)

  pub numbered_place : (b : ℕ) → b < ballot_count size → ballot_number size (get_or places b 0) ≡ b
  numbered_place b l =
      let v = get_or places b 0 in
      let found = first_place (λ k. k == v) 0 places (any_number (λ k. k == v) 0 places b l (eq-eqb v v refl)) in
      let q = ballot_number size v in
      let same : get_or places q 0 ≡ v = eqb-true _ _ found.1 in
      elim (cases_order q b) [
        | inl e ↦ e
        | inr other ↦ elim other [
          | inl lt ↦ let r = kept_rises t (factorial m) 0 q b lt l in absurd (omega arith)
          | inr gt ↦ let r = kept_rises t (factorial m) 0 b q gt found.0 in absurd (omega arith)
        ]
      ]

  pub ballot_of_place : (place : ℕ) → place < factorial m → t place ≡ true → (ballot_number size place < ballot_count size) × (get_or places (ballot_number size place) 0 ≡ place)
  ballot_of_place place l h =
      let found = first_place (λ k. k == place) 0 places (kept_has t (factorial m) 0 place (omega arith) (omega arith) h) in
      (found.0, eqb-true _ _ found.1)

  pub are_ballots : AreBallots size
  are_ballots = record {
    each = λ b l. subst (IsRanking m) (sym (ranking_of_ballot b l)) ((are_rankings m).each (get_or places b 0) (place_below b l));
    listed = λ b l. ap t (ap (ranking_number m) (ranking_of_ballot b l) ∙ (are_rankings m).numbered (get_or places b 0) (place_below b l)) ∙ (kept_at t (factorial m) 0 b l).2;
    every = λ place l h.
        let found = ballot_of_place place l h in (found.0, ranking_of_ballot (ballot_number size place) found.0 ∙ ap (ranking m) found.1);
    in_order = λ a b lt l.
        let la : a < ballot_count size = omega arith in
        subst (λ r. comes_before r (ballot_ranking size b) ≡ true) (sym (ranking_of_ballot a la))
        (subst (λ r. comes_before (ranking m (get_or places a 0)) r ≡ true) (sym (ranking_of_ballot b l))
        ((are_rankings m).in_order (get_or places a 0) (get_or places b 0) (kept_rises t (factorial m) 0 a b lt l) (place_below b l)));
    numbered = λ b l.
        ap (ballot_number size) (ap (ranking_number m) (ranking_of_ballot b l) ∙ (are_rankings m).numbered (get_or places b 0) (place_below b l)) ∙ numbered_place b l;
  }

  -- ---- where each ranking may be cast

  pub all_places : has_all_ballots size ≡ true → places ≡ below (factorial m)
  all_places h = kept_all t (factorial m) 0 (eqb-true _ _ h)

  pub own_place : has_all_ballots size ≡ true → (b : ℕ) → b < ballot_count size → get_or places b 0 ≡ b
  own_place h b l = ap (λ xs. get_or xs b 0) (all_places h) ∙ up_from_at (factorial m) 0 b (omega (arith, eqb-true _ _ h)) ∙ (let same : 0 + b ≡ b = omega arith in same)

  pub own_number : has_all_ballots size ≡ true → (place : ℕ) → place < factorial m → ballot_number size place ≡ place
  own_number h place l =
      let lb : place < ballot_count size = omega (arith, eqb-true _ _ h) in
      ap (ballot_number size) (sym (own_place h place lb)) ∙ numbered_place place lb

  -- a ballot with two alternatives exchanged, and absence, which stays
  pub ballot_swapped : (x y b : ℕ) → b < ballot_count size → cast_swapped size x y b ≡ ballot_number size (place_swapped m x y (get_or places b 0))
  ballot_swapped x y b l = ap (λ o. option_map_or (λ place. ballot_number size (place_swapped m x y place)) o b) (place_of_ballot b l)

  pub past_stays : (x y c : ℕ) → ballot_count size ≤ c → cast_swapped size x y c ≡ c
  past_stays x y c le = ap (λ o. option_map_or (λ place. ballot_number size (place_swapped m x y place)) o c) (slice_get_past places c le)

  pub absence_stays : (x y : ℕ) → cast_swapped size x y (ballot_count size) ≡ ballot_count size
  absence_stays x y =
      let le : ballot_count size ≤ ballot_count size = omega arith in
      ap (λ o. option_map_or (λ place. ballot_number size (place_swapped m x y place)) o (ballot_count size)) (slice_get_past places (ballot_count size) le)

-- there are no more ballots than rankings
pub ballots_within : (size : Extent) → ballot_count size ≤ factorial size.alternatives
ballots_within size = kept_short (is_digit_set size.ballots) (factorial size.alternatives) 0

-- the places below any greater number are no more
pub all_listed : (size : Extent) (n : ℕ) → IsSize size → factorial size.alternatives ≤ n → filter (is_digit_set size.ballots) (below n) ≡ ballot_places size
all_listed size n taken le =
    let k = factorial size.alternatives in
    let more : n ≡ k + (n - k) = omega arith in
    ap (λ x. filter (is_digit_set size.ballots) (below x)) more
    ∙ kept_past (is_digit_set size.ballots) (factorial size.alternatives) (n - k) (λ j above. ap (λ d. d == 1) (bit_at_above size.ballots (factorial size.alternatives) j taken.no_other_ballot above))
