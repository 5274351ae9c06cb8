-- Digits that repeat with a period.
use Rattle.std.proofs.Common.{◌≡◌, refl, sym, ◌∙◌, ap, subst, ℕ, zero, suc, ◌+◌, ◌-◌, ◌*◌, ◌/◌, ◌%◌, ◌<◌, ◌≤◌, List, [], ◌∷◌, take, drop, arith, add-mul, mul_assoc}
use Rattle.std.specs.Prelude.{slice_index}
use Rattle.std.proofs.Math.Nat.{div-add-mod'}
use Rattle.std.proofs.lemmas.Nat.{mod-mul-add, mod_below}
use Rattle.vocab.specs.Range.{product}
use Rattle.meaning.specs.Space.{digits_of}
use Rattle.meaning.proofs.DigitLaws.{positive_right}

-- whole periods more leave what is over
pub periods_more : (a p x : ℕ) → 0 < p → (a * p + x) % p ≡ x % p
periods_more a p x some =
    let parts = div-add-mod' x p in
    let split : a * p + x ≡ (a + x / p) * p + x % p = (let both : (a + x / p) * p ≡ a * p + x / p * p = add-mul a (x / p) p in omega (arith, parts, both)) in
    ap (λ n. n % p) split ∙ mod-mul-add (a + x / p) p (x % p) (mod_below x p some)

-- what is over a multiple of the period leaves the same over the period
within_multiple : (t p n : ℕ) → 0 < p → n % (t * p) % p ≡ n % p
within_multiple t p n some =
    let parts = div-add-mod' n (t * p) in
    let many : n / (t * p) * (t * p) ≡ n / (t * p) * t * p = sym (mul_assoc (n / (t * p)) t p) in
    let split : n ≡ n / (t * p) * t * p + n % (t * p) = omega (arith, parts, many) in
    sym (ap (λ m. m % p) split ∙ periods_more (n / (t * p) * t) p (n % (t * p)) some)

product_drop : (skip : ℕ) (bs : List ℕ) → product bs ≡ product (take skip bs) * product (drop skip bs)
product_drop zero bs = omega arith
product_drop (suc skip) [] = refl
product_drop (suc skip) (b ∷ bs) = ap (λ n. b * n) (product_drop skip bs) ∙ sym (mul_assoc b (product (take skip bs)) (product (drop skip bs)))

-- numbers with the same over the product of the last bases have the same last digits
same_digits : (skip : ℕ) (bs : List ℕ) (n m : ℕ) → n < product bs → m < product bs → n % product (drop skip bs) ≡ m % product (drop skip bs)
    → (i : ℕ) → skip ≤ i → slice_index (digits_of bs n) i ≡ slice_index (digits_of bs m) i
same_digits zero bs n m h l e i s = ap (λ x. slice_index (digits_of bs x) i) (sym (small n h) ∙ e ∙ small m l)
  where
    small : (x : ℕ) → x < product bs → x % product bs ≡ x
    small x b =
        let none : 0 * product bs + x ≡ x = omega arith in
        ap (λ n. n % product bs) (sym none) ∙ mod-mul-add 0 (product bs) x b
same_digits (suc skip) [] n m h l e i s = refl
same_digits (suc skip) (b ∷ bs) n m h l e zero s = absurd (let z : ⊥ = omega (arith, s) in z)
same_digits (suc skip) (b ∷ bs) n m h l e (suc i) s =
    let q = product bs in
    let p = product (drop skip bs) in
    let whole = product_drop skip bs in
    let positive = positive_right b q n h in
    let some : 0 < p = positive_right (product (take skip bs)) p 0 (subst (λ x. 0 < x) whole positive) in
    let over : (x : ℕ) → x % q % p ≡ x % p = λ x. ap (λ y. x % y % p) whole ∙ within_multiple (product (take skip bs)) p x some in
    same_digits skip bs (n % q) (m % q) (mod_below n q positive) (mod_below m q positive) (over n ∙ e ∙ sym (over m)) i (omega (arith, s))

-- lanes that lie whole periods apart have the same last digits
pub low_digits : (skip : ℕ) (bs : List ℕ) (own first k p : ℕ) → p ≡ product (drop skip bs) → own ≤ first → 0 < p → (first - own) % p ≡ 0 → first + k < product bs
    → (i : ℕ) → skip ≤ i → slice_index (digits_of bs (own + k)) i ≡ slice_index (digits_of bs (first + k)) i
low_digits skip bs own first k p e before some whole l =
    let parts = div-add-mod' (first - own) p in
    let split : first + k ≡ (first - own) / p * p + (own + k) = omega (arith, parts, whole, before) in
    let over : (own + k) % p ≡ (first + k) % p = sym (ap (λ n. n % p) split ∙ periods_more ((first - own) / p) p (own + k) some) in
    same_digits skip bs (own + k) (first + k) (omega (arith, before, l)) l (subst (λ x. (own + k) % x ≡ (first + k) % x) e over)
