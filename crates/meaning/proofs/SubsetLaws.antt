-- Each nonempty set of alternatives has one code.
use Rattle.std.proofs.Common.{◌≡◌, ◌∙◌, refl, ap, ℕ, zero, suc, ◌+◌, ◌-◌, ◌^◌, ◌<◌, Bool, true, false, arith}
use Rattle.std.specs.List.{list_any}
use Rattle.std.specs.Prelude.{◌==◌, sum_by}
use Rattle.std.proofs.lemmas.Bool.{both_ways, false_from_ne_true}
use Rattle.std.proofs.lemmas.Nat.Bits.{bit_at-zero}
use Rattle.vocab.specs.Range.{below}
use Rattle.vocab.specs.Size.{is_digit_set}
use Rattle.vocab.proofs.DigitNumbers.{digits_by, digits_below, digits_set, same_digits}
use Rattle.meaning.specs.Subsets.{is_element, elements}
use Rattle.meaning.proofs.SpaceLaws.{any_at, any_from}

-- no digit of 0 is set
none_set : (x : ℕ) → is_digit_set 0 x ≡ false
none_set x = ap (λ d. d == 1) (bit_at-zero x)

-- a number one of whose digits is set is not 0
set_positive : (n x : ℕ) → is_digit_set n x ≡ true → 0 < n
set_positive zero x h = absurd (both_ways _ (none_set x) h)
set_positive (suc n) x h = omega arith

-- the code of the alternatives that pass a test, one of which does
pub set_of : (t : ℕ → Bool) (m x : ℕ) → x < m → t x ≡ true → (code : ℕ) × (code < 2 ^ m - 1) × ((y : ℕ) → y < m → is_element code y ≡ t y)
set_of t m x in_x h =
    let n = digits_by t m in
    let small : n < 2 ^ m = digits_below t m in
    let some : 0 < n = set_positive n x (digits_set t m x in_x ∙ h) in
    let back : n - 1 + 1 ≡ n = omega (arith, some) in
    (n - 1, omega (arith, small, some), λ y in_y. ap (λ (k : ℕ). is_digit_set k y) back ∙ digits_set t m y in_y)

module _ (m : ℕ) where
  -- a code and one is the sum of the powers of its elements
  sum_of : (t : ℕ → Bool) (code : ℕ) → code < 2 ^ m - 1 → ((x : ℕ) → x < m → is_element code x ≡ t x) → digits_by t m ≡ code + 1
  sum_of t code in_code h = same_digits t m (code + 1) (omega (arith, in_code)) h

  -- codes of sets with the same elements are one
  pub same_set : (o q : ℕ) → o < 2 ^ m - 1 → q < 2 ^ m - 1 → ((x : ℕ) → x < m → is_element o x ≡ is_element q x) → o ≡ q
  same_set o q in_o in_q h = omega (arith, sum_of (is_element q) o in_o h, sum_of (is_element q) q in_q (λ x in_x. refl))

  pub same_elements : (o q : ℕ) → o < 2 ^ m - 1 → q < 2 ^ m - 1 → elements m o ≡ elements m q → o ≡ q
  same_elements o q in_o in_q e =
      let sums : digits_by (is_element o) m ≡ digits_by (is_element q) m = ap (sum_by (λ (place : ℕ). 2 ^ place)) e in
      omega (arith, sums, sum_of (is_element o) o in_o (λ x in_x. refl), sum_of (is_element q) q in_q (λ x in_x. refl))

  -- a set has an element
  pub some_element : (code : ℕ) → code < 2 ^ m - 1 → (x : ℕ) × (x < m) × (is_element code x ≡ true)
  some_element code in_code = cases (list_any (is_element code) (below m)) refl
    where
      cases : (b : Bool) → list_any (is_element code) (below m) ≡ b → (x : ℕ) × (x < m) × (is_element code x ≡ true)
      cases true e = let found = any_at (is_element code) m 0 e in (found.0, omega (arith, found.2), found.3)
      cases false e =
          let no : (x : ℕ) → x < m → is_element code x ≡ false = λ x in_x. false_from_ne_true _ (λ h. both_ways _ e (any_from (is_element code) m 0 x h (omega arith) (omega (arith, in_x)))) in
          let zero_sum : digits_by (λ x. false) m ≡ 0 = same_digits (λ x. false) m 0 (omega (arith, in_code)) (λ x in_x. none_set x) in
          absurd (omega (arith, zero_sum, sum_of (λ x. false) code in_code no))
