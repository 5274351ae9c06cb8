-- Numbers and their texts are one to one.
use Rattle.std.proofs.Common.{◌≡◌, refl, sym, ap, ◌∙◌, subst, ℕ, zero, suc, ◌+◌, ◌-◌, ◌*◌, ◌/◌, ◌%◌, ◌^◌, min, ◌<◌, ◌≤◌, ◌≢◌, Bool, true, false, not, ◌&&◌, inl, inr, List, [], ◌∷◌, ◌++◌, Option, Some, None, cond, arith, lt-ltb, le-ltb, ltb-false, true≢false, append-nil, append_assoc}
use Rattle.std.specs.Prelude.{◌==◌, nat_lt, nat_le, option_and_then, IfSome}
use Rattle.std.specs.List.{list_all}
use Rattle.std.proofs.lemmas.Bool.{and_parts, and_from, cases_lt, leb-true, le-leb}
use Rattle.std.proofs.lemmas.Nat.{div-mul-add, mod-mul-add}
use Rattle.std.proofs.Math.Nat.{div-lt_self, mod-lt}
use Rattle.std.proofs.lemmas.Bool.Decides.{Decides-eqb}
use Rattle.lists.proofs.TestLaws.{all_snoc}
use Rattle.vocab.specs.Name.{is_digit}
use Rattle.vocab.proofs.DigitLaws.{digit_from, digit_range}
use Rattle.verdicts.specs.Numbers.{with_last, digits_below, number_text, is_number, value_after, read_number, number_within, saturated}

with_last-same : (b : Bool) (f g : ℕ → List ℕ) (n : ℕ) → (b ≡ false → f (n / 10) ≡ g (n / 10)) → with_last b f n ≡ with_last b g n
with_last-same true f g n h = refl
with_last-same false f g n h = ap (λ ds. ds ++ (48 + n % 10) ∷ []) (h refl)

tenth : (n : ℕ) → 10 ≤ n → n / 10 < n
tenth n h = div-lt_self (omega (arith, h)) (omega arith)

stable : (k l n : ℕ) → n < k → n < l → digits_below k n ≡ digits_below l n
stable zero l n h g = absurd (omega (arith, h))
stable (suc k) zero n h g = absurd (omega (arith, g))
stable (suc k) (suc l) n h g =
    with_last-same (nat_lt n 10) (digits_below k) (digits_below l) n (λ e. let d = tenth n (ltb-false n 10 e) in stable k l (n / 10) (omega (arith, d, h)) (omega (arith, d, g)))

pub text_small : (n : ℕ) → n < 10 → number_text n ≡ (48 + n) ∷ []
text_small n h = ap (λ b. with_last b (digits_below n) n) (lt-ltb n 10 h)

pub text_large : (n : ℕ) → 10 ≤ n → number_text n ≡ number_text (n / 10) ++ (48 + n % 10) ∷ []
text_large n h =
    ap (λ b. with_last b (digits_below n) n) (le-ltb n 10 h)
    ∙ ap (λ ds. ds ++ (48 + n % 10) ∷ []) (let d = tenth n h in stable n (suc (n / 10)) (n / 10) d (omega arith))

pub text_push : (a d : ℕ) → 0 < a → d < 10 → number_text (a * 10 + d) ≡ number_text a ++ (48 + d) ∷ []
text_push a d h l =
    text_large (a * 10 + d) (omega (arith, h))
    ∙ ap (λ q. number_text q ++ (48 + (a * 10 + d) % 10) ∷ []) (div-mul-add a 10 d l)
    ∙ ap (λ r. number_text a ++ (48 + r) ∷ []) (mod-mul-add a 10 d l)

-- the text of the value of a text
text_after : (a : ℕ) (cs : List ℕ) → 0 < a → list_all is_digit cs ≡ true → number_text (value_after a cs) ≡ number_text a ++ cs
text_after a [] h g = sym (append-nil (number_text a))
text_after a (c ∷ cs) h g =
    let p = and_parts (is_digit c) (list_all is_digit cs) g in
    let r = digit_range c p.0 in
    let back : 48 + (c - 48) ≡ c = omega (arith, r.0) in
    text_after (a * 10 + (c - 48)) cs (omega (arith, h)) p.1
    ∙ ap (λ ds. ds ++ cs) (text_push a (c - 48) h (omega (arith, r.0, r.1)))
    ∙ append_assoc (number_text a) ((48 + (c - 48)) ∷ []) cs
    ∙ ap (λ x. number_text a ++ x ∷ cs) back

zero_times : (n : ℕ) → 0 * 10 + n ≡ n
zero_times n = omega arith

pub text_of_value : (t : List ℕ) → is_number t ≡ true → number_text (value_after 0 t) ≡ t
text_of_value [] h = absurd (true≢false (sym h))
text_of_value (c ∷ []) h =
    let r = digit_range c h in
    let back : 48 + (c - 48) ≡ c = omega (arith, r.0) in
    ap (λ n. number_text n) (zero_times (c - 48)) ∙ text_small (c - 48) (omega (arith, r.0, r.1)) ∙ ap (λ x. x ∷ []) back
text_of_value (c ∷ d ∷ ds) h =
    let p = and_parts (is_digit c && not (c == 48)) (list_all is_digit (d ∷ ds)) h in
    let q = and_parts (is_digit c) (not (c == 48)) p.0 in
    let r = digit_range c q.0 in
    let back : 48 + (c - 48) ≡ c = omega (arith, r.0) in
    let some : 0 < c - 48 = omega (arith, r.0, not_48 q.1) in
    ap (λ n. number_text (value_after n (d ∷ ds))) (zero_times (c - 48)) ∙ text_after (c - 48) (d ∷ ds) some p.1
    ∙ ap (λ x. x ++ d ∷ ds) (text_small (c - 48) (omega (arith, r.0, r.1)) ∙ ap (λ x. x ∷ []) back)
  where
    not_48 : not (c == 48) ≡ true → c ≢ 48
    not_48 e same = absurd (true≢false (sym e ∙ ap not ((Decides-eqb c 48).1 same)))

-- the value of the text of a number
value_push : (a : ℕ) (cs : List ℕ) (d : ℕ) → value_after a (cs ++ d ∷ []) ≡ value_after a cs * 10 + (d - 48)
value_push a [] d = refl
value_push a (c ∷ cs) d = value_push (a * 10 + (c - 48)) cs d

-- one more digit of a number that stands still at the end of `u64`
pub saturated_more : (word : List ℕ) (digit : ℕ) → min (min (saturated (value_after 0 word) * 10) (2 ^ 64 - 1) + (digit - 48)) (2 ^ 64 - 1) ≡ saturated (value_after 0 (word ++ digit ∷ []))
saturated_more word digit =
    let e : value_after 0 (word ++ digit ∷ []) ≡ value_after 0 word * 10 + (digit - 48) = value_push 0 word digit in
    omega (arith, e)

-- how a number is written: one digit, or one after the text of its tenth part
abbrev ByDigits : (ℕ → Type 0) → Type 0
ByDigits P = ((n : ℕ) → n < 10 → P n) × ((a d : ℕ) → 0 < a → d < 10 → P a → P (a * 10 + d))

by_digits : (P : ℕ → Type 0) → ByDigits P → (k n : ℕ) → n < k → P n
by_digits P w zero n h = absurd (omega (arith, h))
by_digits P w (suc k) n h = elim (cases_lt n 10) [
  | inl l ↦ w.0 n l
  | inr le ↦
      let d = tenth n le in
      let whole : n / 10 * 10 + n % 10 ≡ n = divided n in
      let less : n % 10 < 10 = mod-lt n (omega arith) in
      let some : 0 < n / 10 = omega (arith, whole, le, less) in
      subst P whole (w.1 (n / 10) (n % 10) some less (by_digits P w k (n / 10) (omega (arith, d, h))))
]
  where
    divided : (n : ℕ) → n / 10 * 10 + n % 10 ≡ n
    divided n = omega arith

pub value_of_text : (n : ℕ) → value_after 0 (number_text n) ≡ n
value_of_text n = by_digits (λ n. value_after 0 (number_text n) ≡ n) (λ n l. ap (value_after 0) (text_small n l) ∙ omega arith, λ a d h l e. ap (value_after 0) (text_push a d h l) ∙ value_push 0 (number_text a) (48 + d) ∙ omega (arith, e)) (suc n) n (omega arith)

number_push : (cs : List ℕ) (d : ℕ) → is_number cs ≡ true → 0 < value_after 0 cs → is_digit d ≡ true → is_number (cs ++ d ∷ []) ≡ true
number_push [] d h v e = absurd (true≢false (sym h))
number_push (c ∷ []) d h v e = and_from (is_digit c && not (c == 48)) _ (and_from (is_digit c) (not (c == 48)) h not_zero) (and_from (is_digit d) true e refl)
  where
    not_zero : not (c == 48) ≡ true
    not_zero = elim (c == 48) as (λ b. (c == 48) ≡ b → not b ≡ true) [
      | true ↦ λ same. absurd (omega (arith, v, (Decides-eqb c 48).0 same))
      | false ↦ λ other. refl
    ] refl
number_push (c ∷ f ∷ fs) d h v e = let p = and_parts (is_digit c && not (c == 48)) (list_all is_digit (f ∷ fs)) h in and_from _ _ p.0 (all_snoc is_digit (f ∷ fs) d p.1 e)

pub text_is_number : (n : ℕ) → is_number (number_text n) ≡ true
text_is_number n = by_digits (λ n. is_number (number_text n) ≡ true) (λ n l. ap is_number (text_small n l) ∙ digit_from n l, λ a d h l e. ap is_number (text_push a d h l) ∙ number_push (number_text a) (48 + d) e (omega (arith, h, value_of_text a)) (digit_from d l)) (suc n) n (omega arith)

pub number_digits : (n : ℕ) → list_all is_digit (number_text n) ≡ true
number_digits n = by_digits (λ n. list_all is_digit (number_text n) ≡ true) (λ n l. ap (list_all is_digit) (text_small n l) ∙ and_from (is_digit (48 + n)) true (digit_from n l) refl, λ a d h l e. ap (list_all is_digit) (text_push a d h l) ∙ all_snoc is_digit (number_text a) (48 + d) e (digit_from d l)) (suc n) n (omega arith)

pub read_text : (n : ℕ) → read_number (number_text n) ≡ Some n
read_text n = grind (arith, text_is_number n, value_of_text n)

pub text_read : (t : List ℕ) (n : ℕ) → read_number t ≡ Some n → t ≡ number_text n
text_read t n e = by_test (is_number t) refl
  where
    by_test : (b : Bool) → is_number t ≡ b → t ≡ number_text n
    by_test true h = let v : value_after 0 t ≡ n = grind (arith, h, e) in sym (text_of_value t h) ∙ ap number_text v
    by_test false h = absurd (grind (arith, h, e))

-- ---- numbers from `least` to `most`

module _ (least most : ℕ) where
  abbrev pub IsWithin : ℕ → Type 0
  IsWithin n = (least ≤ n) × (n ≤ most)

  pub number_is_within : (text : List ℕ) → IfSome (number_within least most text) IsWithin
  number_is_within text = by_number (read_number text)
    where
      by_test : (n : ℕ) (t : Bool) → (nat_le least n && nat_le n most) ≡ t → IfSome (cond t (Some n) None) IsWithin
      by_test n true e = let p = and_parts (nat_le least n) (nat_le n most) e in (leb-true least n p.0, leb-true n most p.1)
      by_test n false e = tt

      by_number : (o : Option ℕ) → IfSome (option_and_then (λ n. cond (nat_le least n && nat_le n most) (Some n) None) o) IsWithin
      by_number None = tt
      by_number (Some n) = by_test n _ refl

  pub number_again : (n : ℕ) → least ≤ n → n ≤ most → number_within least most (number_text n) ≡ Some n
  number_again n low high =
      ap (option_and_then (λ n. cond (nat_le least n && nat_le n most) (Some n) None)) (read_text n)
      ∙ ap (λ t. cond t (Some n) None) (and_from (nat_le least n) (nat_le n most) (le-leb least n low) (le-leb n most high))
