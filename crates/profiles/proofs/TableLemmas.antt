-- What the tables of rankings say, computed once over their rows.
use Rattle.std.proofs.Common.{◌≡◌, refl, sym, ◌∙◌, ap, ap₂, ℕ, zero, suc, ◌+◌, ◌-◌, ◌*◌, ◌<◌, ◌≤◌, Bool, true, false, cond, ◌&&◌, List, [], ◌∷◌, map, length, get_or, drop, arith, eqb-true, ltb-true, subst, take, set, ◌++◌, mul-le-mul_right, suc-mul, add_assoc, append_assoc}
use Rattle.std.specs.Prelude.{◌==◌, nat_lt, nat_eq, count_by}
use Rattle.std.specs.List.{list_all}
use Rattle.std.specs.Cmp.Lexicographic.{pointwise}
use Rattle.std.proofs.lemmas.Bool.{and_parts}
use Rattle.std.proofs.lemmas.Bool.Decides.{nat_tests}
use Rattle.std.proofs.lemmas.List.{get_or_append_left, get_or-map, get_or-drop, take_more, take_more_set, length-map}
use Rattle.std.proofs.lemmas.List.Recursion.{and_at}
use Rattle.std.proofs.lemmas.List.Sums.{count_by-le-length}
use Rattle.vocab.specs.Name.{is_name}
use Rattle.vocab.specs.Size.{Extent, IsSize, ballot_count, ballot_places, cast_count, factorial}
use Rattle.meaning.specs.Space.{exchanged, below, up_from, rankings, ranking, ranking_number, place, is_above}
use Rattle.meaning.specs.Texts.{letter}
use Rattle.meaning.proofs.SpaceLaws.{all_at, length-rankings, factorial_small}
use Rattle.meaning.proofs.BallotLaws.{ballots_within}
use Rattle.meaning.proofs.RankingLaws.{are_rankings, same_list}
use Rattle.profiles.specs.Weights.{places_of, rank_of}
use Rattle.profiles.specs.declared.tables.TheConstants.{EXCHANGED, PAIRS, PLACES}

-- a test of each row of a list with its number
abbrev each_row : (ℕ → List ℕ → Bool) → ℕ → List (List ℕ) → Bool
each_row t k [] = true
each_row t k (r ∷ rs) = t k r && each_row t (suc k) rs

row_at : (t : ℕ → List ℕ → Bool) (k : ℕ) (rs : List (List ℕ)) (b : ℕ) → each_row t k rs ≡ true → b < length rs → t (k + b) (get_or rs b []) ≡ true
row_at t k [] b h l = absurd (omega arith)
row_at t k (r ∷ rs) zero h l =
    let parts = and_parts (t k r) (each_row t (suc k) rs) h in
    let same : k + 0 ≡ k = omega arith in rw same parts.0
row_at t k (r ∷ rs) (suc b) h l =
    let parts = and_parts (t k r) (each_row t (suc k) rs) h in
    let same : k + suc b ≡ suc k + b = omega arith in rw same (row_at t (suc k) rs b parts.1 (omega (arith, l)))

places-rows : PLACES ≡ map (λ r. map (place r) (below 5)) (rankings 5)
places-rows = refl

pub small_ballot : (m b : ℕ) → m ≤ 5 → b < factorial m → b < 120
small_ballot m b h l = omega (arith, factorial_small m h, l)

get_or-below : (x : ℕ) → x < 5 → get_or (below 5) x 0 ≡ x
get_or-below (suc (suc (suc (suc (suc x))))) h = absurd (omega (arith, h))
get_or-below p h = refl

-- what the table of places gives
pub places_at : (b x : ℕ) (d : List ℕ) → b < 120 → x < 5 → get_or (get_or PLACES b d) x 0 ≡ place (ranking 5 b) x
places_at b x d hb hx =
    let row : get_or PLACES b d ≡ map (place (ranking 5 b)) (below 5) = ap (λ t. get_or t b d) places-rows ∙ get_or-map (λ r. map (place r) (below 5)) (rankings 5) b [] d (omega (arith, length-rankings 5)) in
    ap (λ r. get_or r x 0) row ∙ get_or-map (place (ranking 5 b)) (below 5) x 0 0 hx ∙ ap (place (ranking 5 b)) (get_or-below x hx)

-- ---- the rankings of m alternatives are those of five that begin with the others

abbrev left_out_test : List (List ℕ) → ℕ → ℕ → List ℕ → Bool
left_out_test fives m b r = pointwise nat_eq (drop (5 - m) (get_or fives b [])) (map (λ x. x + (5 - m)) r)

abbrev place_test : List (List ℕ) → ℕ → ℕ → List ℕ → Bool
place_test fives m b r = list_all (λ x. place (get_or fives b []) ((5 - m) + x) == place r x + (5 - m)) (below m)

abbrev rank_test : ℕ → List ℕ → Bool
rank_test b r = rank_of (map letter r) == b

abbrev row_test : List (List ℕ) → ℕ → ℕ → List ℕ → Bool
row_test fives m b r = left_out_test fives m b r && place_test fives m b r && rank_test b r && is_name (map letter r)

-- every row of every number of alternatives passes
all_rows : list_all (λ m. each_row (row_test (rankings 5) m) 0 (rankings m)) (up_from 1 5) ≡ true
all_rows = refl

row_fact : (m b : ℕ) → 1 ≤ m → m ≤ 5 → b < factorial m → row_test (rankings 5) m b (ranking m b) ≡ true
row_fact m b some few h =
    let rows = all_at (λ k. each_row (row_test (rankings 5) k) 0 (rankings k)) 5 1 m all_rows some (omega arith) in
    let at_b : 0 + b ≡ b = omega arith in
    subst (λ (k : ℕ). row_test (rankings 5) m k (ranking m b) ≡ true) at_b (row_at (row_test (rankings 5) m) 0 (rankings m) b rows (omega (arith, length-rankings m)))

pub length-ranking : (m b : ℕ) → b < factorial m → length (ranking m b) ≡ m
length-ranking m b h = ((are_rankings m).each b h).size

row_facts : (m b : ℕ) → 1 ≤ m → m ≤ 5 → b < factorial m → (left_out_test (rankings 5) m b (ranking m b) ≡ true) × (place_test (rankings 5) m b (ranking m b) ≡ true) × (rank_test b (ranking m b) ≡ true) × (is_name (map letter (ranking m b)) ≡ true)
row_facts m b some few h =
    let all = and_parts (left_out_test (rankings 5) m b (ranking m b) && place_test (rankings 5) m b (ranking m b) && rank_test b (ranking m b)) (is_name (map letter (ranking m b))) (row_fact m b some few h) in
    let both = and_parts (left_out_test (rankings 5) m b (ranking m b) && place_test (rankings 5) m b (ranking m b)) (rank_test b (ranking m b)) all.0 in
    let parts = and_parts (left_out_test (rankings 5) m b (ranking m b)) (place_test (rankings 5) m b (ranking m b)) both.0 in
    (parts.0, parts.1, both.1, all.1)

pub length-letters : (m b : ℕ) → b < factorial m → length (map letter (ranking m b)) ≡ m
length-letters m b h = length-map (ranking m b) letter ∙ length-ranking m b h

left_out : (m b : ℕ) → 1 ≤ m → m ≤ 5 → b < factorial m → drop (5 - m) (ranking 5 b) ≡ map (λ x. x + (5 - m)) (ranking m b)
left_out m b some few h = same_list _ _ (row_facts m b some few h).0

place_at_five : (m b x : ℕ) → 1 ≤ m → m ≤ 5 → b < factorial m → x < m → place (ranking 5 b) ((5 - m) + x) ≡ place (ranking m b) x + (5 - m)
place_at_five m b x some few h l =
    eqb-true _ _ (all_at (λ y. place (ranking 5 b) ((5 - m) + y) == place (ranking m b) y + (5 - m)) m 0 x (row_facts m b some few h).1 (omega arith) (omega arith))

-- the number of the order of a ballot's letters is the ballot
pub rank-ranking : (m b : ℕ) → 1 ≤ m → m ≤ 5 → b < factorial m → rank_of (map letter (ranking m b)) ≡ b
rank-ranking m b some few h = eqb-true _ _ (row_facts m b some few h).2

pub ballots_are_names : (m b : ℕ) → 1 ≤ m → m ≤ 5 → b < factorial m → is_name (map letter (ranking m b)) ≡ true
ballots_are_names m b some few h = (row_facts m b some few h).3

-- ---- what the tables give at a ballot of m alternatives

nat_lt-shift : (a b s : ℕ) → nat_lt (a + s) (b + s) ≡ nat_lt a b
nat_lt-shift a b s = grind (arith, nat_tests)

pub above_by_places : (m b x y : ℕ) → 1 ≤ m → m ≤ 5 → b < factorial m → x < m → y < m
    → nat_lt (place (ranking 5 b) ((5 - m) + x)) (place (ranking 5 b) ((5 - m) + y)) ≡ is_above (ranking m b) x y
above_by_places m b x y some few h l k =
    ap₂ nat_lt (place_at_five m b x some few h l) (place_at_five m b y some few h k) ∙ nat_lt-shift (place (ranking m b) x) (place (ranking m b) y) (5 - m)

pub alternative_below : (b i : ℕ) → b < 120 → i < 5 → get_or (ranking 5 b) i 0 < 5
alternative_below b i h l =
    let whole : length (ranking 5 b) ≡ 5 = length-ranking 5 b h in
    ltb-true _ _ (and_at (list_all (λ x. nat_lt x 5)) (λ x. nat_lt x 5) refl (λ _ _. refl) (ranking 5 b) i 0 (omega (arith, whole)) ((are_rankings 5).each b h).in_range)

pub letter_at : (m b k : ℕ) → 1 ≤ m → m ≤ 5 → b < factorial m → k < m → (97 + get_or (ranking 5 b) ((5 - m) + k) 0) - (5 - m) ≡ get_or (map letter (ranking m b)) k 0
letter_at m b k some few h l =
    let inner : k < length (ranking m b) = omega (arith, length-ranking m b h) in
    let shifted : get_or (ranking 5 b) ((5 - m) + k) 0 ≡ get_or (ranking m b) k 0 + (5 - m) = sym (get_or-drop (5 - m) (ranking 5 b) k 0) ∙ ap (λ r. get_or r k 0) (left_out m b some few h) ∙ get_or-map (λ x. x + (5 - m)) (ranking m b) k 0 0 inner in
    let lettered : get_or (map letter (ranking m b)) k 0 ≡ 97 + get_or (ranking m b) k 0 = get_or-map letter (ranking m b) k 0 0 inner in
    omega (arith, shifted, lettered)

-- one more item of a list is written
pub take-filled : (xs ys : List ℕ) (k v : ℕ) → k < length xs → k < length ys → take k xs ≡ take k ys → v ≡ get_or ys k 0 → take (k + 1) (set xs k v) ≡ take (k + 1) ys
take-filled xs ys k v h l e same = take_more_set xs k v h ∙ ap₂ (λ (a : List ℕ) (b : ℕ). a ++ b ∷ []) e same ∙ sym (take_more ys k 0 l)

-- one more item of a list is as in another
pub take-same : (xs ys : List ℕ) (k : ℕ) → k < length xs → k < length ys → take k xs ≡ take k ys → get_or xs k 0 ≡ get_or ys k 0 → take (k + 1) xs ≡ take (k + 1) ys
take-same xs ys k h l e same = take_more xs k 0 h ∙ ap₂ (λ (a : List ℕ) (b : ℕ). a ++ b ∷ []) e same ∙ sym (take_more ys k 0 l)

-- one more item of a list is appended
pub append-take : (front xs text : List ℕ) (k v : ℕ) → k < length xs → text ≡ front ++ take k xs → v ≡ get_or xs k 0 → text ++ v ∷ [] ≡ front ++ take (k + 1) xs
append-take front xs text k v h e same =
    ap₂ (λ (t : List ℕ) (b : ℕ). t ++ b ∷ []) e same ∙ append_assoc front (take k xs) (get_or xs k 0 ∷ []) ∙ ap (λ (t : List ℕ). front ++ t) (sym (take_more xs k 0 h))

-- ---- the number of an order

pub rank_of-small : (xs : List ℕ) → rank_of xs < factorial (length xs)
rank_of-small [] = omega arith
rank_of-small (x ∷ xs) =
    let few : count_by (λ y. nat_lt y x) xs ≤ length xs = count_by-le-length (λ y. nat_lt y x) xs in
    omega (arith, rank_of-small xs, mul-le-mul_right (factorial (length xs)) few, suc-mul (length xs) (factorial (length xs)))

pub rank_of-step : (number lower fact total x : ℕ) (rest later : List ℕ) → number + rank_of rest ≡ total → rest ≡ x ∷ later → lower ≡ count_by (λ y. nat_lt y x) later → fact ≡ factorial (length later)
    → number + lower * fact + rank_of later ≡ total
rank_of-step number lower fact total x rest later before front e f =
    ap₂ (λ (a b : ℕ). number + a * b + rank_of later) e f ∙ add_assoc number (count_by (λ y. nat_lt y x) later * factorial (length later)) (rank_of later) ∙ ap (λ (r : List ℕ). number + rank_of r) (sym front) ∙ before

-- ---- two alternatives exchanged

-- the row that the code takes for x and y
abbrev pub row_of_pair : ℕ → ℕ → ℕ → List ℕ
row_of_pair m x y = get_or EXCHANGED (get_or (get_or PAIRS (5 - m + x) []) (5 - m + y) 0) []

abbrev exchange_test : List (List ℕ) → ℕ → ℕ → ℕ → List ℕ → ℕ → List ℕ → Bool
exchange_test rs m x y row b r = nat_lt (get_or row b 0) (factorial m) && pointwise nat_eq (get_or rs (get_or row b 0) []) (map (exchanged x y) r)

abbrev exchanges_test : List (List ℕ) → ℕ → Bool
exchanges_test rs m = list_all (λ x. list_all (λ y. each_row (exchange_test rs m x y (row_of_pair m x y)) 0 rs) (below m)) (below m)

-- each row gives a ballot, whose ranking is the exchanged one
all_exchanges : list_all (λ m. exchanges_test (rankings m) m) (up_from 1 5) ≡ true
all_exchanges = refl

exchange_fact : (m x y b : ℕ) → 1 ≤ m → m ≤ 5 → x < m → y < m → b < factorial m → exchange_test (rankings m) m x y (row_of_pair m x y) b (ranking m b) ≡ true
exchange_fact m x y b some few hx hy h =
    let tests = all_at (λ k. exchanges_test (rankings k) k) 5 1 m all_exchanges some (omega arith) in
    let rows = all_at (λ v. list_all (λ w. each_row (exchange_test (rankings m) m v w (row_of_pair m v w)) 0 (rankings m)) (below m)) m 0 x tests (omega arith) (omega arith) in
    let row = all_at (λ w. each_row (exchange_test (rankings m) m x w (row_of_pair m x w)) 0 (rankings m)) m 0 y rows (omega arith) (omega arith) in
    let at_b : 0 + b ≡ b = omega arith in
    subst (λ (k : ℕ). exchange_test (rankings m) m x y (row_of_pair m x y) k (ranking m b) ≡ true) at_b (row_at (exchange_test (rankings m) m x y (row_of_pair m x y)) 0 (rankings m) b row (omega (arith, length-rankings m)))

-- what the table of exchanged ballots gives
pub exchanged_at : (m x y b : ℕ) → 1 ≤ m → m ≤ 5 → x < m → y < m → b < factorial m
    → (get_or (row_of_pair m x y) b 0 < factorial m) × (get_or (row_of_pair m x y) b 0 ≡ ranking_number m (map (exchanged x y) (ranking m b)))
exchanged_at m x y b some few hx hy h =
    let c = get_or (row_of_pair m x y) b 0 in
    let parts = and_parts (nat_lt c (factorial m)) (pointwise nat_eq (ranking m c) (map (exchanged x y) (ranking m b))) (exchange_fact m x y b some few hx hy h) in
    let within : c < factorial m = ltb-true _ _ parts.0 in
    (within, sym ((are_rankings m).numbered c within) ∙ ap (ranking_number m) (same_list _ _ parts.1))

-- a size has few ballots and few casts
pub few_ballots : (size : Extent) → IsSize size → ballot_count size ≤ 120
few_ballots size valid = omega (arith, ballots_within size, factorial_small size.alternatives valid.few_alternatives)

pub few_casts : (size : Extent) → IsSize size → cast_count size ≤ 121
few_casts size valid = cases size.absent
  where
    cases : (absent : Bool) → cond absent (ballot_count size + 1) (ballot_count size) ≤ 121
    cases true = omega (arith, few_ballots size valid)
    cases false = omega (arith, few_ballots size valid)

-- the place of a ballot, read in front of zeros
pub place_listed : (size : Extent) (b : ℕ) → b < ballot_count size → get_or (places_of size) b 0 ≡ get_or (ballot_places size) b 0
place_listed size b l = get_or_append_left (ballot_places size) _ 0 b l
