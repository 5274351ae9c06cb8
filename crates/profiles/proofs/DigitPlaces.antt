-- A digit of a number is a quotient's remainder.
use Rattle.std.proofs.Common.{◌≡◌, refl, sym, ◌∙◌, ap, ap₂, length-append, subst, ℕ, zero, suc, ◌+◌, ◌-◌, ◌*◌, ◌/◌, ◌%◌, ◌<◌, ◌≤◌, List, [], ◌∷◌, ◌++◌, length, get_or, take, drop, replicate, set, arith, add-one, mul_assoc}
use Rattle.std.proofs.lemmas.Nat.{div_below, mod_below}
use Rattle.std.proofs.Math.Nat.{div-add-mod', mod-eq_of_lt, mul-add-div_right, mul-add-mod_self_right, mul-div_cancel_left, one-mul}
use Rattle.std.proofs.lemmas.List.{length-replicate, get_or-replicate, get_or_append_left, get_or-append_right, take_all}
use Rattle.std.proofs.Math.Seq.{drop-cons, take-append_seam}
use Rattle.vocab.specs.InPlace.{padded}
use Rattle.vocab.specs.Range.{product}
use Rattle.vocab.specs.Size.{Extent, IsSize, cast_count, sort_count}
use Rattle.vocab.specs.declared.kinds.Sort.TheVariants.{Profile}
use Rattle.vocab.proofs.Powers.{pow_positive}
use Rattle.meaning.specs.Space.{digits_of, cast_bases, casts_of}
use Rattle.meaning.proofs.DigitLaws.{lists_at_most, lists_within, product-replicate, length-digits_of, positive_right}
use Rattle.meaning.proofs.SpaceLaws.{cast_positive}
use Rattle.profiles.specs.Weights.{place_values, weights_of}

pub length-place_values : (bases : List ℕ) → length (place_values bases) ≡ length bases
length-place_values [] = refl
length-place_values (b ∷ bases) = ap suc (length-place_values bases)

-- a product has each base as a factor, and what a step of its digit is worth
factor : (bases : List ℕ) (j : ℕ) → j < length bases → (c : ℕ) × (product bases ≡ c * get_or bases j 0 * get_or (place_values bases) j 0)
factor [] j h = absurd (omega arith)
factor (b ∷ bases) zero h = (1, ap (λ x. x * product bases) (sym (one-mul b)))
factor (b ∷ bases) (suc j) h =
    let rest = factor bases j (omega (arith, h)) in
    (b * rest.0, ap (λ x. b * x) (rest.1 ∙ mul_assoc rest.0 (get_or bases j 0) (get_or (place_values bases) j 0)) ∙ sym (mul_assoc b rest.0 (get_or bases j 0 * get_or (place_values bases) j 0)) ∙ sym (mul_assoc (b * rest.0) (get_or bases j 0) (get_or (place_values bases) j 0)))

-- what stands above a digit does not change it
low_digit : (q r c d w : ℕ) → 0 < w → (q * (c * d * w) + r) / w % d ≡ r / w % d
low_digit q r c d w positive =
    let turned : q * (c * d * w) ≡ q * c * d * w = sym (mul_assoc q (c * d) w) ∙ ap (λ x. x * w) (sym (mul_assoc q c d)) in
    ap (λ x. (x + r) / w % d) turned ∙ ap (λ x. x % d) (mul-add-div_right positive (q * c * d) r) ∙ mul-add-mod_self_right (q * c) d (r / w)

pub digit_at : (bases : List ℕ) (k i : ℕ) → k < product bases → i < length bases → get_or (digits_of bases k) i 0 ≡ k / get_or (place_values bases) i 0 % get_or bases i 0
digit_at [] k i h l = absurd (omega arith)
digit_at (b ∷ bases) k zero h l =
    let positive = positive_right b (product bases) k h in sym (mod-eq_of_lt (div_below k (product bases) b positive h))
digit_at (b ∷ bases) k (suc j) h l =
    let positive = positive_right b (product bases) k h in
    let inner : j < length bases = omega (arith, l) in
    let parts = factor bases j inner in
    let below : k % product bases < product bases = mod_below k (product bases) positive in
    let worth : 0 < get_or (place_values bases) j 0 = positive_right (parts.0 * get_or bases j 0) (get_or (place_values bases) j 0) (k % product bases) (subst (λ (x : ℕ). k % product bases < x) parts.1 below) in
    digit_at bases (k % product bases) j below inner
    ∙ sym (low_digit (k / product bases) (k % product bases) parts.0 (get_or bases j 0) (get_or (place_values bases) j 0) worth)
    ∙ ap (λ x. (k / product bases * x + k % product bases) / get_or (place_values bases) j 0 % get_or bases j 0) (sym parts.1)
    ∙ ap (λ x. x / get_or (place_values bases) j 0 % get_or bases j 0) (div-add-mod' k (product bases))

pub at_place_value : (bases : List ℕ) (j : ℕ) → j < length bases → get_or (place_values bases) j 0 ≡ product (drop (suc j) bases)
at_place_value [] j h = absurd (omega arith)
at_place_value (b ∷ bases) zero h = refl
at_place_value (b ∷ bases) (suc j) h = at_place_value bases j (omega (arith, h))

-- ---- the weights of a space

pub length-bases : (size : Extent) → length (cast_bases size) ≡ size.voters
length-bases size = length-replicate size.voters (cast_count size)

pub length-casts : (size : Extent) (p : ℕ) → length (casts_of size p) ≡ size.voters
length-casts size p = length-digits_of (cast_bases size) p ∙ length-bases size

-- the number of a list of casts, all absent or not
abbrev pub IsListed : Extent → ℕ → Type 0
IsListed size p = p < product (cast_bases size)

pub below_product : (size : Extent) (p : ℕ) → p < sort_count size Profile → IsListed size p
below_product size p h = omega (arith, h, lists_within size)

pub weight_at : (size : Extent) (i : ℕ) → i < size.voters → get_or (weights_of size) i 0 ≡ get_or (place_values (cast_bases size)) i 0
weight_at size i h = get_or_append_left (place_values (cast_bases size)) _ 0 i (omega (arith, length-place_values (cast_bases size), length-bases size))

pub some_list : (size : Extent) → IsSize size → 0 < product (cast_bases size)
some_list size valid = subst (λ (x : ℕ). 0 < x) (sym (product-replicate size.voters (cast_count size))) (pow_positive (cast_count size) size.voters (cast_positive size valid))

pub weight_positive : (size : Extent) (i : ℕ) → IsSize size → i < size.voters → 0 < get_or (weights_of size) i 0
weight_positive size i valid h =
    let parts = factor (cast_bases size) i (omega (arith, length-bases size)) in
    rw (weight_at size i h) (positive_right (parts.0 * get_or (cast_bases size) i 0) (get_or (place_values (cast_bases size)) i 0) 0 (subst (λ (x : ℕ). 0 < x) parts.1 (some_list size valid)))

-- the cast of a voter, by one quotient and one remainder
pub cast_at : (size : Extent) (p i : ℕ) → IsListed size p → i < size.voters → p / get_or (weights_of size) i 0 % cast_count size ≡ get_or (casts_of size p) i 0
cast_at size p i h l =
    let inner : i < length (cast_bases size) = omega (arith, length-bases size) in
    ap (λ w. p / w % cast_count size) (weight_at size i l)
    ∙ ap (λ b. p / get_or (place_values (cast_bases size)) i 0 % b) (sym (get_or-replicate size.voters i (cast_count size) 0 l))
    ∙ sym (digit_at (cast_bases size) p i h inner)

pub cast_below : (size : Extent) (p i : ℕ) → IsSize size → IsListed size p → i < size.voters → get_or (casts_of size p) i 0 < cast_count size
cast_below size p i valid h l = subst (λ (x : ℕ). x < cast_count size) (cast_at size p i h l) (mod_below (p / get_or (weights_of size) i 0) (cast_count size) (cast_positive size valid))

-- ---- filling the weights, the greatest first

pub next_weight : (size : Extent) (i w : ℕ) → IsSize size → i < size.voters → w ≡ product (drop i (cast_bases size)) → w / cast_count size ≡ product (drop (i + 1) (cast_bases size))
next_weight size i w valid l e =
    let inner : i < length (cast_bases size) = omega (arith, length-bases size) in
    let front : drop i (cast_bases size) ≡ cast_count size ∷ drop (suc i) (cast_bases size) = drop-cons (cast_bases size) i 0 inner ∙ ap (λ (b : ℕ). b ∷ drop (suc i) (cast_bases size)) (get_or-replicate size.voters i (cast_count size) 0 l) in
    ap (λ x. x / cast_count size) (e ∙ ap product front) ∙ mul-div_cancel_left (product (drop (suc i) (cast_bases size))) (cast_positive size valid) ∙ ap (λ k. product (drop k (cast_bases size))) (sym (add-one i))

-- a list in front of zeros grows by its next number
pub set-filled : (xs : List ℕ) (n i w : ℕ) → i < length xs → i < n → w ≡ get_or xs i 0 → set (take i xs ++ replicate (n - i) 0) i w ≡ take (i + 1) xs ++ replicate (n - (i + 1)) 0
set-filled [] n i w l h e = absurd (omega arith)
set-filled (x ∷ xs) zero i w l h e = absurd (omega arith)
set-filled (x ∷ xs) (suc n) zero w l h e =
    let left : suc n - 0 ≡ suc n = omega arith in
    let after : suc n - (0 + 1) ≡ n = omega arith in
    rw (left, after) (ap (λ (y : ℕ). y ∷ replicate n 0) e)
set-filled (x ∷ xs) (suc n) (suc i) w l h e =
    let rest = set-filled xs n i w (omega (arith, l)) (omega arith) e in
    let left : suc n - suc i ≡ n - i = omega arith in
    let after : suc n - (suc i + 1) ≡ n - (i + 1) = omega arith in
    let front : suc i + 1 ≡ suc (i + 1) = omega arith in
    rw (left, after, front) (ap (λ (ys : List ℕ). x ∷ ys) rest)

pub filled_weights : (size : Extent) (i w : ℕ) → IsSize size → i < size.voters → w ≡ product (drop (i + 1) (cast_bases size))
    → set (take i (place_values (cast_bases size)) ++ replicate (8 - i) 0) i w ≡ take (i + 1) (place_values (cast_bases size)) ++ replicate (8 - (i + 1)) 0
filled_weights size i w valid l e =
    let inner : i < length (cast_bases size) = omega (arith, length-bases size) in
    set-filled (place_values (cast_bases size)) 8 i w (omega (arith, length-place_values (cast_bases size))) (omega (arith, valid.few_voters))
    (e ∙ ap (λ k. product (drop k (cast_bases size))) (add-one i) ∙ sym (at_place_value (cast_bases size) i inner))

-- there is at most one list of casts that is no profile
pub lists_few : (size : Extent) → product (cast_bases size) ≤ sort_count size Profile + 1
lists_few size = lists_at_most size

-- one more number in front of zeros
pub padded-more : (xs : List ℕ) (n v : ℕ) → length xs < n → set (padded n xs) (length xs) v ≡ padded n (xs ++ v ∷ [])
padded-more xs n v l =
    let more = xs ++ v ∷ [] in
    let long : length more ≡ length xs + 1 = length-append xs (v ∷ []) in
    let front : take (length xs) (xs ++ v ∷ []) ≡ xs = take-append_seam xs (v ∷ []) in
    let whole : take (length xs + 1) (xs ++ v ∷ []) ≡ xs ++ v ∷ [] = take_all (length xs + 1) (xs ++ v ∷ []) (let le : length (xs ++ v ∷ []) ≤ length xs + 1 = omega (arith, long) in le) in
    let item : v ≡ get_or (xs ++ v ∷ []) (length xs) 0 = sym (get_or-append_right xs (v ∷ []) (length xs) (length xs) 0 refl (omega arith) ∙ ap (λ k. get_or (v ∷ []) k 0) (let none : length xs - length xs ≡ 0 = omega arith in none)) in
    ap (λ ys. set (ys ++ replicate (n - length xs) 0) (length xs) v) (sym front)
    ∙ set-filled (xs ++ v ∷ []) n (length xs) v (omega (arith, long)) l item
    ∙ ap₂ (λ (ys : List ℕ) (k : ℕ). ys ++ replicate (n - k) 0) whole (sym long)
