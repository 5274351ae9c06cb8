-- Numbers and their digits are one to one.
use Rattle.std.proofs.Common.{◌≡◌, ◌≢◌, Bool, true, false, not, ◌&&◌, cond, eqb-true, eq-eqb, eq-or-lt_of_le, refl, sym, ◌∙◌, ap, ap₂, subst, ℕ, zero, suc, ◌+◌, ◌*◌, ◌/◌, ◌%◌, ◌^◌, ◌<◌, ◌≤◌, List, [], ◌∷◌, replicate, arith, ltb-true, lt-ltb, true≢false, mul-le-mul_right, pow-suc, mul_comm, suc-mul, eq-zero-or-pos, mul-zero, inl, inr, length}
use Rattle.std.specs.Prelude.{nat_lt, ◌==◌}
use Rattle.std.specs.List.{list_all}
use Rattle.std.specs.Cmp.Lexicographic.{pointwise}
use Rattle.std.proofs.lemmas.Bool.{and_parts, and_from, not-true, false_from_ne_true}
use Rattle.std.proofs.lemmas.Nat.{div-mul-add, mod-mul-add, div_below, mod_below}
use Rattle.std.proofs.Math.Nat.{pow-zero, div-add-mod'}
use Rattle.vocab.specs.declared.kinds.Sort.TheVariants.{Profile}
use Rattle.vocab.specs.Size.{Extent, ballot_count, cast_count, lists_of, sort_count}
use Rattle.meaning.specs.Space.{number_of, digits_of}
use Rattle.meaning.specs.Digits.{AreDigits, AreOneToOne, AreProfiles}
use Rattle.vocab.specs.Range.{product}

-- a product that is above some number has no factor 0
pub positive_right : (b p k : ℕ) → k < b * p → 0 < p
positive_right b p k h = elim (eq-zero-or-pos p) [ inl e ↦ absurd (omega (arith, mul-zero b, subst (λ (x : ℕ). k < b * x) e h)) | inr e ↦ e ]

-- there is a digit for each base
pub length-digits_of : (bases : List ℕ) (k : ℕ) → length (digits_of bases k) ≡ length bases
length-digits_of [] k = refl
length-digits_of (b ∷ bases) k = ap suc (length-digits_of bases (k % product bases))

digits_in : (bases : List ℕ) (k : ℕ) → k < product bases → AreDigits bases (digits_of bases k)
digits_in [] k h = refl
digits_in (b ∷ bases) k h =
    let positive = positive_right b (product bases) k h in
    and_from _ _ (lt-ltb (k / product bases) b (div_below k (product bases) b positive h)) (digits_in bases (k % product bases) (mod_below k (product bases) positive))

number_below : (bases digits : List ℕ) → AreDigits bases digits → number_of bases digits < product bases
number_below [] digits h = omega arith
number_below (b ∷ bases) [] h = absurd (true≢false (sym h))
number_below (b ∷ bases) (d ∷ digits) h =
    let e = and_parts (nat_lt d b) (pointwise nat_lt digits bases) h in
    let lt : suc d ≤ b = ltb-true d b e.0 in
    let rest = number_below bases digits e.1 in
    omega (arith, mul-le-mul_right (product bases) lt, suc-mul d (product bases), rest)

number_digits : (bases : List ℕ) (k : ℕ) → k < product bases → number_of bases (digits_of bases k) ≡ k
number_digits [] k h = omega arith
number_digits (b ∷ bases) k h =
    let positive = positive_right b (product bases) k h in
    ap (λ x. k / product bases * product bases + x) (number_digits bases (k % product bases) (mod_below k (product bases) positive)) ∙ div-add-mod' k (product bases)

digits_number : (bases digits : List ℕ) → AreDigits bases digits → digits_of bases (number_of bases digits) ≡ digits
digits_number [] [] h = refl
digits_number [] (d ∷ digits) h = absurd (true≢false (sym h))
digits_number (b ∷ bases) [] h = absurd (true≢false (sym h))
digits_number (b ∷ bases) (d ∷ digits) h =
    let e = and_parts (nat_lt d b) (pointwise nat_lt digits bases) h in
    let rest = number_below bases digits e.1 in
    ap₂ (λ (x : ℕ) (xs : List ℕ). x ∷ xs) (div-mul-add d (product bases) (number_of bases digits) rest)
    (ap (digits_of bases) (mod-mul-add d (product bases) (number_of bases digits) rest) ∙ digits_number bases digits e.1)

pub are_one_to_one : (bases : List ℕ) → AreOneToOne bases
are_one_to_one bases = record { digits = digits_in bases; number = number_below bases; of_digits = number_digits bases; of_number = digits_number bases }

pub product-replicate : (n b : ℕ) → product (replicate n b) ≡ b ^ n
product-replicate zero b = sym (pow-zero b)
product-replicate (suc n) b = ap (λ x. b * x) (product-replicate n b) ∙ mul_comm b (b ^ n) ∙ sym (pow-suc b n)

-- ---- casts, of which there are b ballots and, where absence is allowed, one more

abbrev bases_for : ℕ → ℕ → Bool → List ℕ
bases_for n b absent = replicate n (cond absent (b + 1) b)

abbrev all_absent : ℕ → List ℕ → Bool
all_absent b cs = list_all (λ c. c == b) cs

abbrev is_allowed : ℕ → ℕ → Bool → List ℕ → Bool
is_allowed n b absent cs = pointwise nat_lt cs (bases_for n b absent) && not (absent && all_absent b cs)

-- the list in which all are absent has the greatest number
greatest : (n b : ℕ) (cs : List ℕ) → AreDigits (replicate n (b + 1)) cs → all_absent b cs ≡ true → number_of (replicate n (b + 1)) cs + 1 ≡ product (replicate n (b + 1))
greatest zero b cs h all = refl
greatest (suc n) b [] h all = absurd (true≢false (sym h))
greatest (suc n) b (c ∷ cs) h all =
    let e = and_parts (nat_lt c (b + 1)) (pointwise nat_lt cs (replicate n (b + 1))) h in
    let f = and_parts (c == b) (all_absent b cs) all in
    let rest = greatest n b cs e.1 f.1 in
    let w = product (replicate n (b + 1)) in
    let last : b * w + number_of (replicate n (b + 1)) cs + 1 ≡ (b + 1) * w = omega (arith, rest, suc-mul b w) in
    ap (λ (x : ℕ). x * w + number_of (replicate n (b + 1)) cs + 1) (eqb-true c b f.0) ∙ last

-- and every other list a lesser one
lesser : (n b : ℕ) (cs : List ℕ) → AreDigits (replicate n (b + 1)) cs → all_absent b cs ≡ false → number_of (replicate n (b + 1)) cs + 1 < product (replicate n (b + 1))
lesser zero b [] h some = absurd (true≢false some)
lesser zero b (c ∷ cs) h some = absurd (true≢false (sym h))
lesser (suc n) b [] h some = absurd (true≢false some)
lesser (suc n) b (c ∷ cs) h some = cases (lesser n b cs) (c == b) refl
  where
    e : ((nat_lt c (b + 1)) ≡ true) × (pointwise nat_lt cs (replicate n (b + 1)) ≡ true)
    e = and_parts (nat_lt c (b + 1)) (pointwise nat_lt cs (replicate n (b + 1))) h

    cases : (AreDigits (replicate n (b + 1)) cs → all_absent b cs ≡ false → number_of (replicate n (b + 1)) cs + 1 < product (replicate n (b + 1))) → (t : Bool) → (c == b) ≡ t → c * product (replicate n (b + 1)) + number_of (replicate n (b + 1)) cs + 1 < (b + 1) * product (replicate n (b + 1))
    cases ih true same =
        let rest = ih e.1 (sym (ap (λ (t : Bool). t && all_absent b cs) same) ∙ some) in
        let least : b * product (replicate n (b + 1)) + number_of (replicate n (b + 1)) cs + 1 < (b + 1) * product (replicate n (b + 1)) = omega (arith, rest, suc-mul b (product (replicate n (b + 1)))) in
        subst (λ (x : ℕ). x * product (replicate n (b + 1)) + number_of (replicate n (b + 1)) cs + 1 < (b + 1) * product (replicate n (b + 1))) (sym (eqb-true c b same)) least
    cases ih false other =
        let lt : c < b + 1 = ltb-true c (b + 1) e.0 in
        let ne : c ≢ b = λ same. true≢false (sym (eq-eqb c b same) ∙ other) in
        let next : suc c ≤ b = elim (eq-or-lt_of_le (let le : c ≤ b = omega arith in le)) [ inl same ↦ absurd (ne same) | inr l ↦ l ] in
        let rest = number_below (replicate n (b + 1)) cs e.1 in
        omega (arith, mul-le-mul_right (product (replicate n (b + 1))) next, suc-mul c (product (replicate n (b + 1))), suc-mul b (product (replicate n (b + 1))), rest)

-- how many lists there are, and how many numbers
counted : (n b : ℕ) (absent : Bool) → lists_of n b absent ≤ product (bases_for n b absent)
counted n b true = let e = product-replicate n (b + 1) in omega arith
counted n b false = let e = product-replicate n b in omega arith

allowed : (n b : ℕ) (absent : Bool) (p : ℕ) → p < lists_of n b absent → is_allowed n b absent (digits_of (bases_for n b absent) p) ≡ true
allowed n b false p h =
    let e = product-replicate n b in
    and_from _ _ (digits_in (replicate n b) p (omega arith)) refl
allowed n b true p h =
    let e = product-replicate n (b + 1) in
    let less : p < product (replicate n (b + 1)) = omega arith in
    let digits = digits_in (replicate n (b + 1)) p less in
    and_from _ _ digits (ap not (false_from_ne_true _ (λ all.
    let top = greatest n b (digits_of (replicate n (b + 1)) p) digits all in
    let own = number_digits (replicate n (b + 1)) p less in
    absurd (omega arith))))

pub numbered : (n b : ℕ) (absent : Bool) (cs : List ℕ) → is_allowed n b absent cs ≡ true → number_of (bases_for n b absent) cs < lists_of n b absent
numbered n b false cs h =
    let parts = and_parts (pointwise nat_lt cs (replicate n b)) true h in
    let e = product-replicate n b in
    let l = number_below (replicate n b) cs parts.0 in omega arith
numbered n b true cs h =
    let parts = and_parts (pointwise nat_lt cs (replicate n (b + 1))) (not (all_absent b cs)) h in
    let e = product-replicate n (b + 1) in
    let l = lesser n b cs parts.0 (not-true _ parts.1) in omega arith

pub are_profiles : (size : Extent) → AreProfiles size
are_profiles size =
    let n = size.voters in
    let b = ballot_count size in
    let a = size.absent in
    record {
      casts = allowed n b a;
      number = numbered n b a;
      of_profile = λ p h. number_digits (bases_for n b a) p (omega (arith, h, counted n b a));
      of_casts = λ cs h. digits_number (bases_for n b a) cs (and_parts (pointwise nat_lt cs (bases_for n b a)) (not (a && all_absent b cs)) h).0;
    }

-- there are no more profiles than lists of casts
pub lists_within : (size : Extent) → sort_count size Profile ≤ product (replicate size.voters (cast_count size))
lists_within size = counted size.voters (ballot_count size) size.absent

at_most : (n b : ℕ) (absent : Bool) → product (bases_for n b absent) ≤ lists_of n b absent + 1
at_most n b true = let e = product-replicate n (b + 1) in omega arith
at_most n b false = let e = product-replicate n b in omega arith

pub lists_at_most : (size : Extent) → product (replicate size.voters (cast_count size)) ≤ sort_count size Profile + 1
lists_at_most size = at_most size.voters (ballot_count size) size.absent

-- as many as there are profiles, and one more where absence is allowed
exactly : (n b : ℕ) (absent : Bool) (profiles more : ℕ) → 0 < product (bases_for n b absent) → profiles ≡ lists_of n b absent → more ≡ cond absent 1 0 → profiles + more ≡ product (bases_for n b absent)
exactly n b true profiles more some h k = let e = product-replicate n (b + 1) in omega (arith, h, k, e, some)
exactly n b false profiles more some h k = let e = product-replicate n b in omega (arith, h, k, e)

pub lists_are : (size : Extent) (profiles more : ℕ) → 0 < product (replicate size.voters (cast_count size)) → profiles ≡ sort_count size Profile → more ≡ cond size.absent 1 0 → profiles + more ≡ product (replicate size.voters (cast_count size))
lists_are size profiles more = exactly size.voters (ballot_count size) size.absent profiles more
