-- Counts of clauses, which end at the largest number.
use Rattle.std.proofs.Common.{◌*◌, ◌+◌, ◌≤◌, ◌≡◌, List, ap, ap₂, arith, inl, inr, length, min, refl, suc, sum_by, sym, zero, ℕ, ◌∙◌}
use Rattle.std.proofs.Math.Nat.{mul-le-mul_left}
use Rattle.std.proofs.lemmas.Bool.{cases_lt}
use Rattle.meaning.specs.Clauses.{Disjunction, joined}
use Rattle.meaning.specs.declared.clauses.Counts.{Counts}
use Rattle.meaning.specs.Measure.{largest}
use Rattle.meaning.proofs.MeasureLaws.{counts, length-joined, literals-joined}
use Rattle.clause_form.specs.Wide.{capped_counts}

-- ---- arithmetic that ends at m

-- a factor past the end
past : (m a b : ℕ) → m ≤ a → min (m * min b m) m ≡ min (a * b) m
past m a zero h = let z : min 0 m ≡ 0 = omega arith in rw z (omega arith)
past zero a (suc b) h = omega arith
past (suc m) a (suc b) h =
    let one : 1 ≤ min (suc b) (suc m) = omega arith in
    let left = mul-le-mul_left (suc m) one in
    let some : 1 ≤ suc b = omega arith in
    let right = mul-le-mul_left a some in
    omega (arith, left, right)

pub min-product : (m a b : ℕ) → min (min a m * min b m) m ≡ min (a * b) m
min-product m a b = elim (cases_lt m a) [
  | inl big ↦ (let e : min a m ≡ m = omega arith in rw e (past m a b (omega arith)))
  | inr small ↦ (let e : min a m ≡ a = omega arith in elim (cases_lt m b) [
    | inl big ↦ (let f : min b m ≡ m = omega arith in let g : min (a * min b m) m ≡ min (min b m * a) m = omega arith in let h = past m b a (omega arith) in rw (e, f) (let k : min (m * min a m) m ≡ min (m * a) m = rw e refl in omega (arith, h, k)))
    | inr little ↦ (let f : min b m ≡ b = omega arith in rw (e, f) refl)
  ])
]

pub min-sum : (m a b : ℕ) → min (min a m + min b m) m ≡ min (a + b) m
min-sum m a b = omega arith

-- ---- counts that end

-- what a product of counts is, from what each step gives
pub product_counts : (a b : Counts) (left right most lits m : ℕ) (xs ys : List Disjunction) → m ≡ largest → a ≡ capped_counts xs → b ≡ capped_counts ys →
    left ≡ min (a.literals * b.clauses) m → right ≡ min (a.clauses * b.literals) m → most ≡ min (a.clauses * b.clauses) m → lits ≡ min (left + right) m →
    (let x : Counts = record { clauses = most; literals = lits } in x) ≡ capped_counts (joined xs ys)
product_counts a b left right most lits m xs ys e h k p q r s =
    let ac : a.clauses ≡ min (length xs) m = ap (λ (c : Counts). c.clauses) h ∙ ap (λ (n : ℕ). min (length xs) n) (sym e) in
    let al : a.literals ≡ min (sum_by length xs) m = ap (λ (c : Counts). c.literals) h ∙ ap (λ (n : ℕ). min (sum_by length xs) n) (sym e) in
    let bc : b.clauses ≡ min (length ys) m = ap (λ (c : Counts). c.clauses) k ∙ ap (λ (n : ℕ). min (length ys) n) (sym e) in
    let bl : b.literals ≡ min (sum_by length ys) m = ap (λ (c : Counts). c.literals) k ∙ ap (λ (n : ℕ). min (sum_by length ys) n) (sym e) in
    let lp : left ≡ min (sum_by length xs * length ys) m = p ∙ ap₂ (λ (u v : ℕ). min (u * v) m) al bc ∙ min-product m (sum_by length xs) (length ys) in
    let rp : right ≡ min (length xs * sum_by length ys) m = q ∙ ap₂ (λ (u v : ℕ). min (u * v) m) ac bl ∙ min-product m (length xs) (sum_by length ys) in
    let mp : most ≡ min (length xs * length ys) m = r ∙ ap₂ (λ (u v : ℕ). min (u * v) m) ac bc ∙ min-product m (length xs) (length ys) in
    counts most (min (length (joined xs ys)) largest) lits (min (sum_by length (joined xs ys)) largest)
    (mp ∙ ap₂ min (sym (length-joined xs ys)) e)
    (s ∙ ap₂ (λ (u v : ℕ). min (u + v) m) lp rp ∙ min-sum m (sum_by length xs * length ys) (length xs * sum_by length ys) ∙ ap₂ min (sym (literals-joined xs ys)) e)
