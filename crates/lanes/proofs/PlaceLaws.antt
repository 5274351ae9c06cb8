-- The values of instances that differ in their lanes alone.
use Rattle.std.proofs.Common.{◌≡◌, refl, sym, ◌∙◌, ap, ap₂, subst, ℕ, zero, suc, ◌+◌, ◌-◌, ◌*◌, ◌/◌, ◌%◌, ◌<◌, ◌≤◌, List, [], ◌∷◌, ◌++◌, length, take, drop, arith, mul-le-mul_right, suc-mul, min, length-append}
use Rattle.std.proofs.Math.Nat.{div-add-mod'}
use Rattle.std.proofs.lemmas.Nat.{div-mul-add, mod-mul-add, div_below, mod_below}
use Rattle.std.proofs.lemmas.List.{take-append-le, drop-append-le, append_assoc, append-nil, length-drop}
use Rattle.std.proofs.Math.Seq.{drop-append_seam}
use Rattle.vocab.specs.Range.{product}
use Rattle.meaning.specs.Space.{digits_of}
use Rattle.meaning.proofs.DigitLaws.{positive_right, length-digits_of}
use Rattle.lanes.specs.Lanes.{lane_values, place_in}
use Rattle.lanes.specs.declared.shapes.Shape.{Shape}

-- as many more instances as there are lanes left are instances of the same block
stays : (o : ℕ) (bs : List ℕ) (n k : ℕ) → n < product bs → place_in o bs n + k < product (drop o bs) → n + k < product bs
stays zero bs n k h l = l
stays (suc o) [] n k h l = omega (arith, l)
stays (suc o) (b ∷ bs) n k h l =
    let q = product bs in
    let positive = positive_right b q n h in
    let inner = stays o bs (n % q) k (mod_below n q positive) l in
    let below : suc (n / q) ≤ b = div_below n q b positive h in
    let parts = div-add-mod' n q in
    omega (arith, mul-le-mul_right q below, suc-mul (n / q) q, inner, parts)

pub lanes_at : (o : ℕ) (bs : List ℕ) (n k : ℕ) → n < product bs → place_in o bs n + k < product (drop o bs) → digits_of bs (n + k) ≡ take o (digits_of bs n) ++ digits_of (drop o bs) (place_in o bs n + k)
lanes_at zero bs n k h l = refl
lanes_at (suc o) [] n k h l = refl
lanes_at (suc o) (b ∷ bs) n k h l =
    let q = product bs in
    let positive = positive_right b q n h in
    let inner = stays o bs (n % q) k (mod_below n q positive) l in
    let split : n + k ≡ n / q * q + (n % q + k) = let parts = div-add-mod' n q in omega (arith, parts) in
    ap₂ (λ (x : ℕ) (xs : List ℕ). x ∷ xs)
    (ap (λ m. m / q) split ∙ div-mul-add (n / q) q (n % q + k) inner)
    (ap (λ m. digits_of bs (m % q)) split ∙ ap (digits_of bs) (mod-mul-add (n / q) q (n % q + k) inner) ∙ lanes_at o bs (n % q) k (mod_below n q positive) l)

-- one more value of a quantifier inside stands behind
pub lanes_more : (shape : Shape) (first k v : ℕ) (env : List ℕ) → shape.outer + length shape.bases ≤ length env → lane_values shape first k (env ++ v ∷ []) ≡ lane_values shape first k env ++ v ∷ []
lanes_more shape first k v env long =
    let o = shape.outer in
    let m = o + length shape.bases in
    ap₂ (λ (xs ys : List ℕ). xs ++ digits_of shape.bases (first + k) ++ ys) (take-append-le o env (v ∷ []) (omega (arith, long))) (drop-append-le m env (v ∷ []) long)
    ∙ sym (append_assoc (take o env ++ digits_of shape.bases (first + k)) (drop m env) (v ∷ []))

pub place_step : (outer b : ℕ) (bs : List ℕ) (n block : ℕ) → 0 < outer → block ≡ min (product bs) 18446744073709551615 → b * product bs ≤ 40000000 → n < b * product bs → place_in (outer - 1) bs (n % block) ≡ place_in outer (b ∷ bs) n
place_step zero b bs n block h e few l = absurd (omega (arith, h))
place_step (suc o) b bs n block h e few l =
    let q = product bs in
    let some : 1 ≤ b = positive_left b q n l in
    let small : 1 * q ≤ b * q = mul-le-mul_right q some in
    let whole : block ≡ q = omega (arith, e, small, few) in
    let before : suc o - 1 ≡ o = omega arith in
    ap₂ (λ (p m : ℕ). place_in p bs (n % m)) before whole
  where
    positive_left : (b q n : ℕ) → n < b * q → 1 ≤ b
    positive_left zero q n l = absurd (omega (arith, l))
    positive_left (suc b) q n l = omega arith

module _ (shape : Shape) (bs : List ℕ) (fits : shape.outer ≤ length bs) (e : shape.bases ≡ drop shape.outer bs) where
  all_levels : shape.outer + length shape.bases ≡ length bs
  all_levels = let d = length-drop shape.outer bs in omega (arith, fits, d, ap length e)

  -- the values of an instance and of the quantifiers inside are those of a lane
  pub instance_at : (n k : ℕ) (inner : List ℕ) → n < product bs → place_in shape.outer bs n + k < product shape.bases
      → lane_values shape (place_in shape.outer bs n) k (digits_of bs n ++ inner) ≡ digits_of bs (n + k) ++ inner
  instance_at n k inner h l =
      let o = shape.outer in
      let p = place_in o bs n in
      let digits = length-digits_of bs n in
      let m = all_levels in
      let front : take o (digits_of bs n ++ inner) ≡ take o (digits_of bs n) = take-append-le o (digits_of bs n) inner (omega (arith, fits, digits)) in
      let back : drop (o + length shape.bases) (digits_of bs n ++ inner) ≡ inner =
      ap (λ x. drop x (digits_of bs n ++ inner)) (m ∙ sym digits) ∙ drop-append_seam (digits_of bs n) inner in
      ap₂ (λ (xs ys : List ℕ). xs ++ digits_of shape.bases (p + k) ++ ys) front back
      ∙ ap (λ (xs : List ℕ). take o (digits_of bs n) ++ digits_of xs (p + k) ++ inner) e
      ∙ ap (λ (xs : List ℕ). xs ++ inner) (sym (lanes_at o bs n k h (subst (λ (xs : List ℕ). p + k < product xs) e l)))

  pub instance_here : (n place shift k : ℕ) → n < product bs → place ≡ place_in shape.outer bs n → shift ≤ place → place + k < product shape.bases
      → lane_values shape (place - shift) (shift + k) (digits_of bs n) ≡ digits_of bs (n + k)
  instance_here n place shift k h at le l =
      let p = place_in shape.outer bs n in
      let moved : place - shift + (shift + k) ≡ p + k = omega (arith, le, at) in
      ap (λ x. take shape.outer (digits_of bs n) ++ digits_of shape.bases x ++ drop (shape.outer + length shape.bases) (digits_of bs n)) moved
      ∙ ap (lane_values shape p k) (sym (append-nil (digits_of bs n)))
      ∙ instance_at n k [] h (omega (arith, l, at))
      ∙ append-nil (digits_of bs (n + k))

  pub long_enough : (n : ℕ) (inner : List ℕ) → shape.outer + length shape.bases ≤ length (digits_of bs n ++ inner)
  long_enough n inner = let d = length-digits_of bs n in let a = length-append (digits_of bs n) inner in let m = all_levels in omega (arith, d, a, m)

  pub long_plain : (n : ℕ) → shape.outer + length shape.bases ≤ length (digits_of bs n)
  long_plain n = let d = length-digits_of bs n in let m = all_levels in omega (arith, d, m)
