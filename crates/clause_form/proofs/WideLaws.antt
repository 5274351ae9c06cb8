-- A list with a part that is too wide is too wide.
use Rattle.std.proofs.Common.{◌≡◌, ℕ, ◌*◌, ◌-◌, ◌^◌, ◌<◌, ◌≤◌, ◌⊎◌, inl, inr, min, true, nat_lt, List, length, sum_by, arith, lt-ltb, ltb-true}
use Rattle.std.proofs.Math.Nat.{mul-le-mul_left}
use Rattle.meaning.specs.Clauses.{Disjunction, joined}
use Rattle.meaning.proofs.MeasureLaws.{length-joined, literals-joined}
use Rattle.clause_form.specs.Wide.{capped_counts, is_wide}
use Rattle.std.proofs.lemmas.Bool.{or_cases, or_left, or_right}

-- either count passes its limit
abbrev Passes : List Disjunction → Type 0
Passes rows = (100000 < length rows) ⊎ (4000000 < sum_by length rows)

passes : (rows : List Disjunction) → is_wide (capped_counts rows) ≡ true → Passes rows
passes rows h = elim (or_cases _ _ h) [
  | inl a ↦ (let k = ltb-true 100000 (min (length rows) (2 ^ 64 - 1)) a in inl (omega arith))
  | inr b ↦ (let k = ltb-true 4000000 (min (sum_by length rows) (2 ^ 64 - 1)) b in inr (omega arith))
]

wide : (rows : List Disjunction) → Passes rows → is_wide (capped_counts rows) ≡ true
wide rows h = elim h [
  | inl a ↦ or_left _ _ (lt-ltb 100000 (min (length rows) (2 ^ 64 - 1)) (omega arith))
  | inr b ↦ or_right (nat_lt 100000 (min (length rows) (2 ^ 64 - 1))) _ (lt-ltb 4000000 (min (sum_by length rows) (2 ^ 64 - 1)) (omega arith))
]

-- as many clauses and literals, or more
grown : (xs zs : List Disjunction) → length xs ≤ length zs → sum_by length xs ≤ sum_by length zs → is_wide (capped_counts xs) ≡ true → is_wide (capped_counts zs) ≡ true
grown xs zs a b h = wide zs (elim (passes xs h) [ inl p ↦ inl (omega arith) | inr q ↦ inr (omega arith) ])

times_some : (a b : ℕ) → 1 ≤ b → a ≤ a * b
times_some a b h = let k = mul-le-mul_left a h in omega (arith, k)

some_times : (a b : ℕ) → 1 ≤ b → a ≤ b * a
some_times a b h = let k = mul-le-mul_left a h in omega (arith, k)

pub wide_joined_left : (xs ys : List Disjunction) → 1 ≤ length ys → is_wide (capped_counts xs) ≡ true → is_wide (capped_counts (joined xs ys)) ≡ true
wide_joined_left xs ys h = grown xs (joined xs ys)
    (omega (arith, length-joined xs ys, times_some (length xs) (length ys) h))
    (omega (arith, literals-joined xs ys, times_some (sum_by length xs) (length ys) h))

pub wide_joined_right : (xs ys : List Disjunction) → 1 ≤ length xs → is_wide (capped_counts ys) ≡ true → is_wide (capped_counts (joined xs ys)) ≡ true
wide_joined_right xs ys h = grown ys (joined xs ys)
    (omega (arith, length-joined xs ys, some_times (length ys) (length xs) h))
    (omega (arith, literals-joined xs ys, some_times (sum_by length ys) (length xs) h))
