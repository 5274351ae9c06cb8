-- The text of a profile, ballot by ballot.
use Rattle.std.proofs.Common.{◌≡◌, ◌≢◌, inl, inr, sym, ◌∙◌, ap, ap₂, subst, ℕ, zero, suc, ◌+◌, ◌*◌, ◌/◌, ◌%◌, ◌^◌, ◌<◌, ◌≤◌, List, [], ◌∷◌, ◌++◌, map, length, get_or, take, drop, replicate, arith, add-one, append_assoc, mul_assoc, mul_comm, add_assoc, pow-suc}
use Rattle.std.specs.List.{join_with_byte}
use Rattle.std.proofs.lemmas.List.{length-map, get_or-map, take_more, length-take-le, map-append, length-replicate, drop_all, append-nil, nil_from_length}
use Rattle.std.proofs.lemmas.Nat.{div-mul-add, mod-mul-add, mod_below}
use Rattle.std.proofs.Math.Nat.{div-div-eq-div-mul, div-add-mod', div-one, add-mul, pow-zero, one-mul, pow-le-pow_right}
use Rattle.std.proofs.Math.Seq.{drop-cons}
use Rattle.vocab.specs.Range.{product}
use Rattle.vocab.specs.Size.{Extent, IsSize, ballot_count, ballot_places, cast_count, factorial}
use Rattle.std.specs.Prelude.{Option, Some, None, IfSome, IfNone, MatchOption}
use Rattle.meaning.specs.Space.{digits_of, casts_of}
use Rattle.meaning.specs.Texts.{ballot_text, cast_text, letters_or_dash, profile_text, ranking_text, letter}
use Rattle.meaning.proofs.DigitLaws.{product-replicate, length-digits_of}
use Rattle.std.proofs.lemmas.List.{get_or_append_left}
use Rattle.std.proofs.lemmas.Bool.{cases_lt}
use Rattle.std.proofs.lemmas.Option.{slice_get_past}
use Rattle.vocab.proofs.Powers.{pow_positive}
use Rattle.meaning.proofs.BallotLaws.{place_below, place_of_ballot, ranking_of_ballot}
use Rattle.profiles.proofs.DigitPlaces.{length-casts}
use Rattle.profiles.proofs.JoinLemmas.{barred, join-cons, join-push, after_same, front_same}
use Rattle.profiles.specs.Weights.{rank_of}
use Rattle.profiles.proofs.TableLemmas.{length-ranking, rank-ranking}
use Rattle.meaning.specs.Space.{ranking}
use lib.Arith.{digits_lt}

-- rankings have texts of their own
pub same_place : (size : Extent) → IsSize size → (a b : ℕ) → a < factorial size.alternatives → b < factorial size.alternatives → ranking_text size.alternatives a ≡ ranking_text size.alternatives b → a ≡ b
same_place size valid a b h l e =
    sym (rank-ranking size.alternatives a valid.some_alternative valid.few_alternatives h) ∙ ap rank_of e ∙ rank-ranking size.alternatives b valid.some_alternative valid.few_alternatives l

-- the text of a ballot, and of absence
pub ballot_letters : (size : Extent) (b : ℕ) → b < ballot_count size → ballot_text size b ≡ ranking_text size.alternatives (get_or (ballot_places size) b 0)
ballot_letters size b l = ap (map letter) (ranking_of_ballot size b l)

pub cast_letters : (size : Extent) (b : ℕ) → b < ballot_count size → cast_text size b ≡ ranking_text size.alternatives (get_or (ballot_places size) b 0)
cast_letters size b l = ap (letters_or_dash size.alternatives) (place_of_ballot size b l)

pub cast_is_ballot : (size : Extent) (b : ℕ) → b < ballot_count size → cast_text size b ≡ ballot_text size b
cast_is_ballot size b l = cast_letters size b l ∙ sym (ballot_letters size b l)

pub absence_dash : (size : Extent) (c : ℕ) → ballot_count size ≤ c → cast_text size c ≡ 45 ∷ []
absence_dash size c le = ap (letters_or_dash size.alternatives) (slice_get_past (ballot_places size) c le)

pub length-ranking_text : (m place : ℕ) → place < factorial m → length (ranking_text m place) ≡ m
length-ranking_text m place h = length-map (ranking m place) letter ∙ length-ranking m place h

pub length-ballot_text : (size : Extent) (b : ℕ) → b < ballot_count size → length (ballot_text size b) ≡ size.alternatives
length-ballot_text size b l = ap length (ballot_letters size b l) ∙ length-ranking_text size.alternatives _ (place_below size b l)

pub first_letter : (m place : ℕ) (rest : List ℕ) → 1 ≤ m → place < factorial m → 97 ≤ get_or (ranking_text m place ++ rest) 0 0
first_letter m place rest some h =
    let inner : 0 < length (ranking m place) = omega (arith, length-ranking m place h) in
    let long : 0 < length (ranking_text m place) = omega (arith, length-ranking_text m place h) in
    omega (arith, get_or_append_left (ranking_text m place) rest 0 0 long, get_or-map letter (ranking m place) 0 0 0 inner)

-- the first byte of a ballot's text is a letter, and so that of absence is another
pub ballot_byte : (size : Extent) → IsSize size → (b : ℕ) (rest : List ℕ) → b < ballot_count size → 97 ≤ get_or (cast_text size b ++ rest) 0 0
ballot_byte size valid b rest l =
    subst (λ (t : List ℕ). 97 ≤ get_or (t ++ rest) 0 0) (sym (cast_letters size b l)) (first_letter size.alternatives (get_or (ballot_places size) b 0) rest valid.some_alternative (place_below size b l))

pub cast_byte : (size : Extent) → IsSize size → (c : ℕ) (rest : List ℕ) → 45 ≤ get_or (cast_text size c ++ rest) 0 0
cast_byte size valid c rest = elim (cases_lt c (ballot_count size)) [
  | inl l ↦ let byte = ballot_byte size valid c rest l in omega (arith, byte)
  | inr le ↦ subst (λ (t : List ℕ). 45 ≤ get_or (t ++ rest) 0 0) (sym (absence_dash size c le)) (omega arith)
]

-- ---- what the readers answer

pub match_map : {A : Type 0} (P P' : Type 0) (Q Q' : A → Type 0) (r : Option A) → (P → P') → ((a : A) → Q a → Q' a) → MatchOption r P Q → MatchOption r P' Q'
match_map P P' Q Q' None f g h = f h
match_map P P' Q Q' (Some a) f g h = g a h

pub read_found : (size : Extent) (text : List ℕ) (place : ℕ) (r : Option ℕ) → text ≡ ranking_text size.alternatives place → IfSome r (λ b. (b < ballot_count size) × (get_or (ballot_places size) b 0 ≡ place))
    → IfSome r (λ b. (b < ballot_count size) × (text ≡ ballot_text size b))
read_found size text place None e h = tt
read_found size text place (Some b) e h = (h.0, e ∙ ap (ranking_text size.alternatives) (sym h.1) ∙ sym (ballot_letters size b h.0))

pub read_none : (size : Extent) → IsSize size → (text : List ℕ) (place : ℕ) (r : Option ℕ) → place < factorial size.alternatives → text ≡ ranking_text size.alternatives place
    → IfNone r ((b : ℕ) → b < ballot_count size → get_or (ballot_places size) b 0 ≢ place) → IfNone r ((b : ℕ) → b < ballot_count size → text ≢ ballot_text size b)
read_none size valid text place None within e h = λ b l same. h b l (same_place size valid (get_or (ballot_places size) b 0) place (place_below size b l) within (sym (ballot_letters size b l) ∙ sym same ∙ e))
read_none size valid text place (Some b) within e h = tt

-- what follows a cast
pub after_cast : (size : Extent) → IsSize size → (c d : ℕ) (r s : List ℕ) → cast_text size c ++ r ≡ cast_text size d ++ s → (cast_text size c ≡ cast_text size d) × (r ≡ s)
after_cast size valid c d r s e = elim (cases_lt c (ballot_count size)) [
  | inl lc ↦ elim (cases_lt d (ballot_count size)) [
    | inl ld ↦
        let left = cast_letters size c lc in
        let right = cast_letters size d ld in
        let long : length (cast_text size c) ≡ length (cast_text size d) = ap length left ∙ length-ranking_text size.alternatives _ (place_below size c lc) ∙ sym (ap length right ∙ length-ranking_text size.alternatives _ (place_below size d ld)) in
        (front_same (cast_text size c) (cast_text size d) r s long e, after_same (cast_text size c) (cast_text size d) r s long e)
    | inr ld ↦ absurd (dash c d r s lc ld e)
  ]
  | inr lc ↦ elim (cases_lt d (ballot_count size)) [
    | inl ld ↦ absurd (dash d c s r ld lc (sym e))
    | inr ld ↦
        let left = absence_dash size c lc in
        let right = absence_dash size d ld in
        let long : length (cast_text size c) ≡ length (cast_text size d) = ap length left ∙ sym (ap length right) in
        (left ∙ sym right, after_same (cast_text size c) (cast_text size d) r s long e)
  ]
]
  where
    dash : (i j : ℕ) (x y : List ℕ) → i < ballot_count size → ballot_count size ≤ j → cast_text size i ++ x ≡ cast_text size j ++ y → ⊥
    dash i j x y li lj same =
        let letter_first = first_letter size.alternatives (get_or (ballot_places size) i 0) x valid.some_alternative (place_below size i li) in
        let own : ranking_text size.alternatives (get_or (ballot_places size) i 0) ++ x ≡ 45 ∷ y = ap (λ t. t ++ x) (sym (cast_letters size i li)) ∙ same ∙ ap (λ t. t ++ y) (absence_dash size j lj) in
        let first : get_or (ranking_text size.alternatives (get_or (ballot_places size) i 0) ++ x) 0 0 ≡ 45 = ap (λ t. get_or t 0 0) own in
        omega arith

-- the texts of a profile's casts
abbrev pub texts_of : Extent → ℕ → List (List ℕ)
texts_of size p = map (cast_text size) (casts_of size p)

pub length-texts_of : (size : Extent) (p : ℕ) → length (texts_of size p) ≡ size.voters
length-texts_of size p = length-map (casts_of size p) (cast_text size) ∙ length-casts size p

text_at : (size : Extent) (p i : ℕ) → i < size.voters → get_or (texts_of size p) i [] ≡ cast_text size (get_or (casts_of size p) i 0)
text_at size p i h = get_or-map (cast_text size) (casts_of size p) i 0 [] (omega (arith, length-casts size p))

-- ---- writing

pub next_text : (size : Extent) (p i : ℕ) → 0 < i → i < size.voters
    → join_with_byte 124 (take (i + 1) (texts_of size p)) ≡ (join_with_byte 124 (take i (texts_of size p)) ++ 124 ∷ []) ++ cast_text size (get_or (casts_of size p) i 0)
next_text size p i some h =
    let inner : i < length (texts_of size p) = omega (arith, length-texts_of size p) in
    let front : length (take i (texts_of size p)) ≡ i = length-take-le i (texts_of size p) (omega arith) in
    ap (join_with_byte 124) (take_more (texts_of size p) i [] inner) ∙ join-push (take i (texts_of size p)) (get_or (texts_of size p) i []) (omega arith)
    ∙ ap (λ (t : List ℕ). (join_with_byte 124 (take i (texts_of size p)) ++ 124 ∷ []) ++ t) (text_at size p i h)

-- ---- reading: what has been read

-- the text of the first voters' ballots, whose digits make a number
abbrev pub front_text : Extent → ℕ → ℕ → List ℕ
front_text size i q = join_with_byte 124 (map (cast_text size) (digits_of (replicate i (cast_count size)) q))

pub front_first : (size : Extent) (b : ℕ) → front_text size 1 b ≡ cast_text size b
front_first size b = ap (cast_text size) (div-one b)

digits-push : (i f q b : ℕ) → b < f → q < product (replicate i f) → digits_of (replicate (suc i) f) (q * f + b) ≡ digits_of (replicate i f) q ++ b ∷ []
digits-push zero f q b h l =
    let none : q ≡ 0 = omega arith in
    ap (λ (x : ℕ). x ∷ []) (div-one (q * f + b) ∙ ap (λ (x : ℕ). x * f + b) none ∙ (let same : 0 * f + b ≡ b = omega arith in same))
digits-push (suc i) f q b h l =
    let p = product (replicate i f) in
    let positive : 0 < product (replicate i f) = subst (λ (x : ℕ). 0 < x) (sym (product-replicate i f)) (pow_positive f i (omega arith)) in
    let low : q % p < p = mod_below q p positive in
    let apart : q * f + b ≡ q / p * (f * p) + (q % p * f + b) = ap (λ (x : ℕ). x * f + b) (sym (div-add-mod' q p)) ∙ ap (λ (x : ℕ). x + b) (add-mul (q / p * p) (q % p) f) ∙ add_assoc (q / p * p * f) (q % p * f) b ∙ ap (λ (x : ℕ). x + (q % p * f + b)) (mul_assoc (q / p) p f ∙ ap (λ (x : ℕ). q / p * x) (mul_comm p f)) in
    let small : q % p * f + b < f * p = subst (λ (x : ℕ). q % p * f + b < x) (mul_comm p f) (digits_lt low h) in
    ap₂ (λ (x : ℕ) (xs : List ℕ). x ∷ xs) (sym (div-div-eq-div-mul (q * f + b) f p) ∙ ap (λ (x : ℕ). x / p) (div-mul-add q f b h))
    (ap (λ (k : ℕ). digits_of (replicate (suc i) f) (k % (f * p))) apart ∙ ap (digits_of (replicate (suc i) f)) (mod-mul-add (q / p) (f * p) (q % p * f + b) small) ∙ digits-push i f (q % p) b h low)

pub front_more : (size : Extent) (i q b : ℕ) (text rest after : List ℕ) → 0 < i → b < cast_count size → q < cast_count size ^ i
    → text ≡ front_text size i q ++ rest → rest ≡ 124 ∷ (cast_text size b ++ after) → text ≡ front_text size (i + 1) (q * cast_count size + b) ++ after
front_more size i q b text rest after some h l e next =
    let f = cast_count size in
    let read = digits_of (replicate i (cast_count size)) q in
    let size_of : length (map (cast_text size) (digits_of (replicate i (cast_count size)) q)) ≡ i = length-map (digits_of (replicate i (cast_count size)) q) (cast_text size) ∙ length-digits_of (replicate i (cast_count size)) q ∙ length-replicate i (cast_count size) in
    let inner : q < product (replicate i f) = subst (λ (x : ℕ). q < x) (sym (product-replicate i f)) l in
    let more : front_text size (i + 1) (q * f + b) ≡ (front_text size i q ++ 124 ∷ []) ++ cast_text size b = ap (λ (k : ℕ). front_text size k (q * f + b)) (add-one i) ∙ ap (λ (ds : List ℕ). join_with_byte 124 (map (cast_text size) ds)) (digits-push i f q b h inner) ∙ ap (join_with_byte 124) (map-append (cast_text size) read (b ∷ [])) ∙ join-push (map (cast_text size) read) (cast_text size b) (omega (arith, size_of)) in
    e ∙ ap (λ (r : List ℕ). front_text size i q ++ r) next ∙ sym (append_assoc (front_text size i q) (124 ∷ []) (cast_text size b ++ after)) ∙ sym (append_assoc (front_text size i q ++ 124 ∷ []) (cast_text size b) after)
    ∙ ap (λ (t : List ℕ). t ++ after) (sym more)

pub number_first : (f b : ℕ) → b < f → b < f ^ 1
number_first f b h = subst (λ (x : ℕ). b < x) (sym (pow-suc f 0 ∙ ap (λ (x : ℕ). x * f) (pow-zero f) ∙ one-mul f)) h

pub number_more : (f i q b : ℕ) → q < f ^ i → b < f → q * f + b < f ^ (i + 1)
number_more f i q b h l = rw (add-one, pow-suc) (digits_lt h l)

pub power_within : (f i n k : ℕ) → i < n → 0 < f → k < f ^ (i + 1) → k < f ^ n
power_within f i n k l some h = let le : f ^ (i + 1) ≤ f ^ n = pow-le-pow_right some (let next : i + 1 ≤ n = omega arith in next) in omega arith

-- ---- reading: what must follow

pub profile_front : (size : Extent) (p : ℕ) → 0 < size.voters → profile_text size p ≡ cast_text size (get_or (casts_of size p) 0 0) ++ barred (drop 1 (texts_of size p))
profile_front size p some =
    let inner : 0 < length (texts_of size p) = omega (arith, length-texts_of size p) in
    let front : texts_of size p ≡ cast_text size (get_or (casts_of size p) 0 0) ∷ drop 1 (texts_of size p) = drop-cons (texts_of size p) 0 [] inner ∙ ap (λ (t : List ℕ). t ∷ drop 1 (texts_of size p)) (text_at size p 0 some) in
    ap (join_with_byte 124) front ∙ join-cons (cast_text size (get_or (casts_of size p) 0 0)) (drop 1 (texts_of size p))

pub follows_first : (size : Extent) (p b : ℕ) (text rest : List ℕ) → IsSize size → text ≡ cast_text size b ++ rest → text ≡ profile_text size p → rest ≡ barred (drop 1 (texts_of size p))
follows_first size p b text rest valid e same =
    (after_cast size valid b (get_or (casts_of size p) 0 0) rest (barred (drop 1 (texts_of size p))) (sym e ∙ same ∙ profile_front size p valid.some_voter)).1

pub follows_next : (size : Extent) (p i : ℕ) → i < size.voters → barred (drop i (texts_of size p)) ≡ 124 ∷ (cast_text size (get_or (casts_of size p) i 0) ++ barred (drop (i + 1) (texts_of size p)))
follows_next size p i h =
    let inner : i < length (texts_of size p) = omega (arith, length-texts_of size p) in
    ap barred (drop-cons (texts_of size p) i [] inner) ∙ ap₂ (λ (t : List ℕ) (k : ℕ). 124 ∷ (t ++ barred (drop k (texts_of size p)))) (text_at size p i h) (sym (add-one i))

pub follows_more : (size : Extent) (p i b : ℕ) (rest after : List ℕ) → IsSize size → i < size.voters
    → rest ≡ 124 ∷ (cast_text size b ++ after) → rest ≡ barred (drop i (texts_of size p)) → after ≡ barred (drop (i + 1) (texts_of size p))
follows_more size p i b rest after valid l next e =
    (after_cast size valid b (get_or (casts_of size p) i 0) after (barred (drop (i + 1) (texts_of size p))) (ap (drop 1) (sym next ∙ e ∙ follows_next size p i l))).1

-- ---- reading: the end

pub all_read : (size : Extent) (i q : ℕ) (text rest : List ℕ) → i ≡ size.voters → length rest ≡ 0 → text ≡ front_text size i q ++ rest → text ≡ profile_text size q
all_read size i q text rest all none e = e ∙ ap (λ (r : List ℕ). front_text size i q ++ r) (nil_from_length rest none) ∙ append-nil (front_text size i q) ∙ ap (λ (k : ℕ). front_text size k q) all

pub none_follow : (size : Extent) (i p : ℕ) (rest : List ℕ) → i ≡ size.voters → rest ≡ barred (drop i (texts_of size p)) → length rest ≡ 0
none_follow size i p rest all e = ap length (e ∙ ap barred (drop_all i (texts_of size p) (omega (arith, length-texts_of size p))))
