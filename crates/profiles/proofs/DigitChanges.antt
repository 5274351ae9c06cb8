-- A number whose digits change.
use Rattle.std.proofs.Common.{◌≡◌, refl, sym, ◌∙◌, ap, ap₂, subst, ℕ, zero, suc, ◌+◌, ◌-◌, ◌*◌, ◌/◌, ◌%◌, ◌<◌, ◌≤◌, Bool, true, false, cond, List, [], ◌∷◌, map, length, get_or, drop, set, arith, add-one, zero-mul, lt-ltb, true≢false, add_assoc}
use Rattle.std.specs.Prelude.{nat_lt, count_by, swap}
use Rattle.std.specs.Cmp.Lexicographic.{pointwise}
use Rattle.std.proofs.lemmas.Bool.{and_parts, and_from}
use Rattle.std.proofs.lemmas.Grind.{get_or_default_zero}
use Rattle.std.proofs.lemmas.List.{get_or-replicate, drop_all}
use Rattle.std.proofs.lemmas.List.Sums.{sum_by-cons}
use Rattle.std.proofs.lemmas.Nat.{div_below, mod_below}
use Rattle.std.proofs.Math.Seq.{drop-cons}
use mir.Val.{bool_byte}
use Rattle.vocab.specs.Range.{product}
use Rattle.vocab.specs.Size.{Extent, IsSize, cast_count}
use Rattle.meaning.specs.Digits.{AreDigits}
use Rattle.meaning.specs.Space.{number_of, digits_of, cast_bases, casts_of, profile_number, with_ballot, with_voters_swapped}
use Rattle.meaning.proofs.DigitLaws.{are_one_to_one, length-digits_of}
use Rattle.profiles.specs.Weights.{place_values, weights_of}
use Rattle.profiles.proofs.DigitPlaces.{IsListed, length-bases, length-casts, weight_at, at_place_value, weight_positive}

-- ---- one digit replaced

number_of-set : (bases digits : List ℕ) (i v : ℕ) → i < length bases → length digits ≡ length bases
    → number_of bases (set digits i v) + get_or digits i 0 * get_or (place_values bases) i 0 ≡ number_of bases digits + v * get_or (place_values bases) i 0
number_of-set [] digits i v h l = absurd (omega arith)
number_of-set (b ∷ bases) [] i v h l = absurd (omega (arith, l))
number_of-set (b ∷ bases) (d ∷ digits) zero v h l = omega arith
number_of-set (b ∷ bases) (d ∷ digits) (suc i) v h l = omega (arith, number_of-set bases digits i v (omega (arith, h)) (omega (arith, l)))

AreDigits-set : (bases digits : List ℕ) (i v : ℕ) → AreDigits bases digits → v < get_or bases i 0 → AreDigits bases (set digits i v)
AreDigits-set [] [] i v h l = h
AreDigits-set [] (d ∷ digits) i v h l = absurd (true≢false (sym h))
AreDigits-set (b ∷ bases) [] i v h l = absurd (true≢false (sym h))
AreDigits-set (b ∷ bases) (d ∷ digits) zero v h l = and_from _ _ (lt-ltb v b l) (and_parts (nat_lt d b) (pointwise nat_lt digits bases) h).1
AreDigits-set (b ∷ bases) (d ∷ digits) (suc i) v h l =
    let parts = and_parts (nat_lt d b) (pointwise nat_lt digits bases) h in and_from _ _ parts.0 (AreDigits-set bases digits i v parts.1 l)

pub ballot_digits : (size : Extent) (p : ℕ) → IsListed size p → AreDigits (cast_bases size) (casts_of size p)
ballot_digits size p h = (are_one_to_one (cast_bases size)).digits p h

replaced_digits : (size : Extent) (p i b : ℕ) → IsListed size p → i < size.voters → b < cast_count size → AreDigits (cast_bases size) (set (casts_of size p) i b)
replaced_digits size p i b h l k =
    AreDigits-set (cast_bases size) (casts_of size p) i b (ballot_digits size p h) (subst (λ (x : ℕ). b < x) (sym (get_or-replicate size.voters i (cast_count size) 0 l)) k)

-- the number with one voter's ballot replaced
pub replaced_number : (size : Extent) (p i b : ℕ) → IsListed size p → i < size.voters
    → with_ballot size p i b + get_or (casts_of size p) i 0 * get_or (weights_of size) i 0 ≡ p + b * get_or (weights_of size) i 0
replaced_number size p i b h l =
    let w = get_or (place_values (cast_bases size)) i 0 in
    ap (λ x. with_ballot size p i b + get_or (casts_of size p) i 0 * x) (weight_at size i l)
    ∙ number_of-set (cast_bases size) (casts_of size p) i b (omega (arith, length-bases size)) (length-digits_of (cast_bases size) p)
    ∙ ap (λ x. x + b * w) ((are_one_to_one (cast_bases size)).of_digits p h)
    ∙ ap (λ x. p + b * x) (sym (weight_at size i l))

pub replaced_within : (size : Extent) (p i b : ℕ) → IsListed size p → i < size.voters → b < cast_count size → IsListed size (with_ballot size p i b)
replaced_within size p i b h l k = (are_one_to_one (cast_bases size)).number (set (casts_of size p) i b) (replaced_digits size p i b h l k)

-- what a ballot is worth is part of the number
pub worth_within : (size : Extent) (p i : ℕ) → IsListed size p → i < size.voters → get_or (casts_of size p) i 0 * get_or (weights_of size) i 0 ≤ p
worth_within size p i h l = omega (arith, replaced_number size p i 0 h l, zero-mul (get_or (weights_of size) i 0))

-- the number is had by taking off what the old ballot is worth and adding what the new one is
pub record IsReplaced (size : Extent) (p i b old weight : ℕ) : Type 0 where
  pub taken : old * weight ≤ p
  pub added : b * weight ≤ with_ballot size p i b
  pub number : p - old * weight + b * weight ≡ with_ballot size p i b

pub is_replaced : (size : Extent) (p i b old weight : ℕ) → IsListed size p → i < size.voters → old ≡ get_or (casts_of size p) i 0 → weight ≡ get_or (weights_of size) i 0 → IsReplaced size p i b old weight
is_replaced size p i b old weight h l e f =
    let sum : with_ballot size p i b + old * weight ≡ p + b * weight = ap₂ (λ (x y : ℕ). with_ballot size p i b + x * y) e f ∙ replaced_number size p i b h l ∙ ap (λ (y : ℕ). p + b * y) (sym f) in
    let part : old * weight ≤ p = subst (λ (x : ℕ). x ≤ p) (ap₂ (λ (x y : ℕ). x * y) (sym e) (sym f)) (worth_within size p i h l) in
    record { taken = part; added = omega arith; number = omega arith }

pub replaced_ballots : (size : Extent) (p i b : ℕ) → IsListed size p → i < size.voters → b < cast_count size → casts_of size (with_ballot size p i b) ≡ set (casts_of size p) i b
replaced_ballots size p i b h l k = (are_one_to_one (cast_bases size)).of_number (set (casts_of size p) i b) (replaced_digits size p i b h l k)

-- ---- two digits exchanged

set_own : (xs : List ℕ) (i j : ℕ) → get_or (set xs i (get_or xs j 0)) j 0 ≡ get_or xs j 0
set_own [] i j = refl
set_own (x ∷ xs) zero zero = refl
set_own (x ∷ xs) zero (suc j) = refl
set_own (x ∷ xs) (suc i) zero = refl
set_own (x ∷ xs) (suc i) (suc j) = set_own xs i j

swap-sets : (xs : List ℕ) (i j : ℕ) → i < length xs → j < length xs → swap xs i j ≡ set (set xs i (get_or xs j 0)) j (get_or xs i 0)
swap-sets [] i j h l = absurd (omega arith)
swap-sets (x ∷ xs) i j h l = ap₂ (λ (a b : ℕ). set (set (x ∷ xs) i a) j b) (get_or_default_zero (x ∷ xs) j x l) (get_or_default_zero (x ∷ xs) i x h)

pub second_ballot : (size : Extent) (p i j : ℕ) → IsListed size p → i < size.voters → get_or (casts_of size p) j 0 < cast_count size
    → get_or (casts_of size p) j 0 ≡ get_or (casts_of size (with_ballot size p i (get_or (casts_of size p) j 0))) j 0
second_ballot size p i j h l k =
    sym (ap (λ (ds : List ℕ). get_or ds j 0) (replaced_ballots size p i (get_or (casts_of size p) j 0) h l k) ∙ set_own (casts_of size p) i j)

pub swapped_voters : (size : Extent) (p i j : ℕ) → IsListed size p → i < size.voters → j < size.voters → get_or (casts_of size p) j 0 < cast_count size
    → with_ballot size (with_ballot size p i (get_or (casts_of size p) j 0)) j (get_or (casts_of size p) i 0) ≡ with_voters_swapped size p i j
swapped_voters size p i j h l k within =
    ap (λ (ds : List ℕ). profile_number size (set ds j (get_or (casts_of size p) i 0))) (replaced_ballots size p i (get_or (casts_of size p) j 0) h l within)
    ∙ ap (profile_number size) (sym (swap-sets (casts_of size p) i j (omega (arith, length-casts size p)) (omega (arith, length-casts size p))))

-- ---- digit after digit

weight_is : (size : Extent) (i : ℕ) → i < size.voters → get_or (weights_of size) i 0 ≡ product (drop (i + 1) (cast_bases size))
weight_is size i l = weight_at size i l ∙ at_place_value (cast_bases size) i (omega (arith, length-bases size)) ∙ ap (λ (k : ℕ). product (drop k (cast_bases size))) (sym (add-one i))

bases_from : (size : Extent) (i : ℕ) → i < size.voters → drop i (cast_bases size) ≡ cast_count size ∷ drop (i + 1) (cast_bases size)
bases_from size i l =
    drop-cons (cast_bases size) i 0 (omega (arith, length-bases size))
    ∙ ap₂ (λ (b k : ℕ). b ∷ drop k (cast_bases size)) (get_or-replicate size.voters i (cast_count size) 0 l) (sym (add-one i))

-- the ballots of the voters from i on, as the digits of what is left of a number
abbrev pub ballots_from : Extent → ℕ → ℕ → List ℕ
ballots_from size i rest = digits_of (drop i (cast_bases size)) rest

pub ballots_next : (size : Extent) (i rest : ℕ) → i < size.voters
    → ballots_from size i rest ≡ rest / get_or (weights_of size) i 0 ∷ ballots_from size (i + 1) (rest % get_or (weights_of size) i 0)
ballots_next size i rest l =
    ap (λ (bases : List ℕ). digits_of bases rest) (bases_from size i l)
    ∙ ap (λ (w : ℕ). rest / w ∷ digits_of (drop (i + 1) (cast_bases size)) (rest % w)) (sym (weight_is size i l))

-- what is left of a number has the ballots of the voters from i on
abbrev pub IsRest : Extent → ℕ → ℕ → Type 0
IsRest size i rest = rest < product (drop i (cast_bases size))

pub next_ballot_below : (size : Extent) (i rest : ℕ) → IsSize size → i < size.voters → IsRest size i rest → rest / get_or (weights_of size) i 0 < cast_count size
next_ballot_below size i rest valid l h =
    let bound : rest < cast_count size * get_or (weights_of size) i 0 = subst (λ (x : ℕ). rest < x) (ap product (bases_from size i l) ∙ ap (λ (w : ℕ). cast_count size * w) (sym (weight_is size i l))) h in
    div_below rest (get_or (weights_of size) i 0) (cast_count size) (weight_positive size i valid l) bound

pub IsRest-next : (size : Extent) (i rest : ℕ) → IsSize size → i < size.voters → IsRest size (i + 1) (rest % get_or (weights_of size) i 0)
IsRest-next size i rest valid l = subst (λ (x : ℕ). rest % get_or (weights_of size) i 0 < x) (weight_is size i l) (mod_below rest (get_or (weights_of size) i 0) (weight_positive size i valid l))

-- a count so far, with the ballots that are left
pub count_next : (t : ℕ → Bool) (size : Extent) (i rest count total : ℕ) → i < size.voters → count + count_by t (ballots_from size i rest) ≡ total
    → count + cond (t (rest / get_or (weights_of size) i 0)) 1 0 + count_by t (ballots_from size (i + 1) (rest % get_or (weights_of size) i 0)) ≡ total
count_next t size i rest count total l e =
    add_assoc count (cond (t (rest / get_or (weights_of size) i 0)) 1 0) (count_by t (ballots_from size (i + 1) (rest % get_or (weights_of size) i 0)))
    ∙ ap (λ (n : ℕ). count + n) (sym (sum_by-cons (λ (b : ℕ). cond (t b) 1 0) (rest / get_or (weights_of size) i 0) (ballots_from size (i + 1) (rest % get_or (weights_of size) i 0))))
    ∙ ap (λ (ds : List ℕ). count + count_by t ds) (sym (ballots_next size i rest l)) ∙ e

-- a number so far, with what the other ballots become
pub number_next : (f : ℕ → ℕ) (size : Extent) (i rest number total : ℕ) → i < size.voters → number + number_of (drop i (cast_bases size)) (map f (ballots_from size i rest)) ≡ total
    → number + f (rest / get_or (weights_of size) i 0) * get_or (weights_of size) i 0 + number_of (drop (i + 1) (cast_bases size)) (map f (ballots_from size (i + 1) (rest % get_or (weights_of size) i 0))) ≡ total
number_next f size i rest number total l e =
    let w = get_or (weights_of size) i 0 in
    let others = map f (ballots_from size (i + 1) (rest % w)) in
    add_assoc number (f (rest / w) * w) (number_of (drop (i + 1) (cast_bases size)) others)
    ∙ ap (λ (x : ℕ). number + (f (rest / w) * x + number_of (drop (i + 1) (cast_bases size)) others)) (weight_is size i l)
    ∙ ap₂ (λ (bases ds : List ℕ). number + number_of bases (map f ds)) (sym (bases_from size i l)) (sym (ballots_next size i rest l)) ∙ e

pub byte_of : (b : Bool) → bool_byte b ≡ cond b 1 0
byte_of true = refl
byte_of false = refl

pub byte_small : (b : Bool) → bool_byte b ≤ 1
byte_small true = omega arith
byte_small false = omega arith

pub number_done : (f : ℕ → ℕ) (size : Extent) (i rest number total : ℕ) → i ≡ size.voters → number + number_of (drop i (cast_bases size)) (map f (ballots_from size i rest)) ≡ total → number ≡ total
number_done f size i rest number total all e =
    let none : drop i (cast_bases size) ≡ [] = drop_all i (cast_bases size) (omega (arith, length-bases size)) in
    let same : number + 0 ≡ number = omega arith in
    sym same ∙ ap (λ (bases : List ℕ). number + number_of bases (map f (digits_of bases rest))) (sym none) ∙ e
