-- Numbers by their digits of two.
use Rattle.std.proofs.Common.{◌≡◌, ◌≢◌, refl, sym, ◌∙◌, ap, subst, ℕ, zero, suc, ◌+◌, ◌-◌, ◌*◌, ◌^◌, ◌<◌, ◌≤◌, [], ◌∷◌, filter, Bool, true, false, cond, arith, add-one, le_refl, lit<, inl, inr}
use Rattle.std.specs.Prelude.{◌==◌, sum_by}
use Rattle.std.specs.Int.{bit_at}
use Rattle.std.proofs.lemmas.Bool.{cases_lt, eq-eqb, eqb-true, false≢true}
use Rattle.std.proofs.lemmas.List.Sums.{sum_by-append}
use Rattle.std.proofs.lemmas.Nat.Bits.{bit_at-lt, bit_at_cat_high, bit_at_cat_low, same_from_bits_below}
use Rattle.std.proofs.lemmas.Grind.{pow_more}
use Rattle.vocab.specs.Range.{below}
use Rattle.vocab.specs.Size.{is_digit_set}
use Rattle.vocab.proofs.Ranges.{kept-more}

-- the number in which digit j is set exactly where a test holds of j, of those below n
abbrev pub digits_by : (ℕ → Bool) → ℕ → ℕ
digits_by t n = sum_by (λ place. 2 ^ place) (filter t (below n))

last_digit : (n a : ℕ) (b : Bool) → a + sum_by (λ place. 2 ^ place) (cond b (n ∷ []) []) ≡ cond b 1 0 * 2 ^ n + a
last_digit n a true = omega arith
last_digit n a false = omega arith

digits-more : (t : ℕ → Bool) (n : ℕ) → digits_by t (n + 1) ≡ cond (t n) 1 0 * 2 ^ n + digits_by t n
digits-more t n = ap (sum_by (λ place. 2 ^ place)) (kept-more t n) ∙ sum_by-append (λ place. 2 ^ place) (filter t (below n)) (cond (t n) (n ∷ []) []) ∙ last_digit n (digits_by t n) (t n)

one_digit : (b : Bool) (k : ℕ) → cond b 1 0 * k ≤ k
one_digit true k = omega arith
one_digit false k = omega arith

pub digits_below : (t : ℕ → Bool) (n : ℕ) → digits_by t n < 2 ^ n
digits_below t zero = lit< tt
digits_below t (suc n) =
    let before = digits_below t n in
    let more = digits-more t n in
    let digit = one_digit (t n) (2 ^ n) in
    let power = pow_more 2 n in
    let next : digits_by t (n + 1) < 2 ^ (n + 1) = omega (arith, before, more, digit, power) in
    subst (λ k. digits_by t k < 2 ^ k) (add-one n) next

lowest_digit : (b : Bool) → bit_at (cond b 1 0) 0 ≡ cond b 1 0
lowest_digit true = refl
lowest_digit false = refl

digit_of : (t : ℕ → Bool) (n j : ℕ) → j < n → bit_at (digits_by t n) j ≡ cond (t j) 1 0
digit_of t zero j h = absurd (omega arith)
digit_of t (suc n) j h =
    subst (λ k. bit_at (digits_by t k) j ≡ cond (t j) 1 0) (add-one n) (ap (λ d. bit_at d j) (digits-more t n) ∙ elim (cases_lt j n) [
      | inl lt ↦ bit_at_cat_low (cond (t n) 1 0) n (digits_by t n) j lt ∙ digit_of t n j lt
      | inr ge ↦
          let same : n ≡ j = omega arith in
          let none : n - n ≡ 0 = omega arith in
          let own : bit_at (cond (t n) 1 0 * 2 ^ n + digits_by t n) n ≡ cond (t n) 1 0 =
          bit_at_cat_high (cond (t n) 1 0) n (digits_by t n) n (digits_below t n) (le_refl n) ∙ ap (bit_at (cond (t n) 1 0)) none ∙ lowest_digit (t n) in
          subst (λ i. bit_at (cond (t n) 1 0 * 2 ^ n + digits_by t n) i ≡ cond (t i) 1 0) same own
    ])

digit_test : (b : Bool) → (cond b 1 0 == 1) ≡ b
digit_test true = refl
digit_test false = refl

-- its digits are those that pass the test
pub digits_set : (t : ℕ → Bool) (n j : ℕ) → j < n → is_digit_set (digits_by t n) j ≡ t j
digits_set t n j h = ap (λ d. d == 1) (digit_of t n j h) ∙ digit_test (t j)

digit_by : (d : ℕ) (b : Bool) → d < 2 → (d == 1) ≡ b → d ≡ cond b 1 0
digit_by d true small h = eqb-true d 1 h
digit_by d false small h = let other : d ≢ 1 = λ e. false≢true (sym h ∙ eq-eqb d 1 e) in omega arith

-- a number with these digits is that one
pub same_digits : (t : ℕ → Bool) (n a : ℕ) → a < 2 ^ n → ((j : ℕ) → j < n → is_digit_set a j ≡ t j) → digits_by t n ≡ a
same_digits t n a small h =
    same_from_bits_below n (digits_by t n) a (digits_below t n) small (λ j l. digit_of t n j l ∙ sym (digit_by (bit_at a j) (t j) (bit_at-lt a j) (h j l)))
