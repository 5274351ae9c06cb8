-- A formula of which nothing is known has clauses of both signs.
use Rattle.std.proofs.Common.{◌≡◌, ◌≢◌, ℕ, ◌*◌, ◌≤◌, ◌⊎◌, inl, inr, refl, arith, length, length-append, List, ◌++◌, true, false}
use Rattle.meaning.specs.declared.three.Three.{Three}
use Rattle.meaning.specs.declared.three.Three.TheVariants.{True, False, Unknown}
use Rattle.meaning.specs.Clauses.{Disjunction, for_falsity, for_truth, joined, known_truth, minus, plus}
use Rattle.meaning.specs.Kleene.{three_and, three_not, three_or, three_same}
use Rattle.meaning.specs.Written.{And, Fact, Iff, Known, Neg, Or, Written}
use Rattle.meaning.proofs.MeasureLaws.{length-joined}

no_true : False ≢ True
no_true e = let k : ⊥ = cc in k

no_false : True ≢ False
no_false e = let k : ⊥ = cc in k

unknown_true : Unknown ≢ True
unknown_true e = let k : ⊥ = cc in k

unknown_false : Unknown ≢ False
unknown_false e = let k : ⊥ = cc in k

some_truth : (t : Three) (row : List Disjunction) → (t ≡ Unknown → 1 ≤ length row) → t ≢ True → 1 ≤ length (for_truth t row)
some_truth True row h n = absurd (n refl)
some_truth False row h n = omega arith
some_truth Unknown row h n = h refl

some_falsity : (t : Three) (row : List Disjunction) → (t ≡ Unknown → 1 ≤ length row) → t ≢ False → 1 ≤ length (for_falsity t row)
some_falsity True row h n = omega arith
some_falsity False row h n = absurd (n refl)
some_falsity Unknown row h n = h refl

not_open : (j : Three) → three_not j ≡ Unknown → (j ≢ False) × (j ≢ True)
not_open True e = absurd (let k : ⊥ = cc in k)
not_open False e = absurd (let k : ⊥ = cc in k)
not_open Unknown e = (unknown_false, unknown_true)

and_open : (j k : Three) → three_and j k ≡ Unknown → (j ≢ False) × (k ≢ False) × ((j ≢ True) ⊎ (k ≢ True))
and_open True True e = absurd (let k : ⊥ = cc in k)
and_open True False e = absurd (let k : ⊥ = cc in k)
and_open True Unknown e = (no_false, unknown_false, inr unknown_true)
and_open False k e = absurd (let c : ⊥ = cc in c)
and_open Unknown True e = (unknown_false, no_false, inl unknown_true)
and_open Unknown False e = absurd (let k : ⊥ = cc in k)
and_open Unknown Unknown e = (unknown_false, unknown_false, inl unknown_true)

or_open : (j k : Three) → three_or j k ≡ Unknown → (j ≢ True) × (k ≢ True) × ((j ≢ False) ⊎ (k ≢ False))
or_open True k e = absurd (let c : ⊥ = cc in c)
or_open False True e = absurd (let k : ⊥ = cc in k)
or_open False False e = absurd (let k : ⊥ = cc in k)
or_open False Unknown e = (no_true, unknown_true, inr unknown_false)
or_open Unknown True e = absurd (let k : ⊥ = cc in k)
or_open Unknown False e = (unknown_true, no_true, inl unknown_false)
or_open Unknown Unknown e = (unknown_true, unknown_true, inl unknown_false)

-- of the pairs that may differ, and of those that may agree
same_open : (j k : Three) → three_same j k ≡ Unknown →
    (((j ≢ False) × (k ≢ True)) ⊎ ((j ≢ True) × (k ≢ False))) × (((j ≢ False) × (k ≢ False)) ⊎ ((j ≢ True) × (k ≢ True)))
same_open Unknown True e = (inr (unknown_true, no_false), inl (unknown_false, no_false))
same_open Unknown False e = (inl (unknown_false, no_true), inr (unknown_true, no_true))
same_open Unknown Unknown e = (inl (unknown_false, unknown_true), inl (unknown_false, unknown_false))
same_open True True e = absurd (let k : ⊥ = cc in k)
same_open True False e = absurd (let k : ⊥ = cc in k)
same_open True Unknown e = (inl (no_false, unknown_true), inl (no_false, unknown_false))
same_open False True e = absurd (let k : ⊥ = cc in k)
same_open False False e = absurd (let k : ⊥ = cc in k)
same_open False Unknown e = (inr (no_true, unknown_false), inr (no_true, unknown_true))

times : (a b : ℕ) → 1 ≤ a → 1 ≤ b → 1 ≤ a * b
times a b h k = grind (arith)

some_joined : (xs ys : List Disjunction) → 1 ≤ length xs → 1 ≤ length ys → 1 ≤ length (joined xs ys)
some_joined xs ys h k = let t = times (length xs) (length ys) h k in omega (arith, t, length-joined xs ys)

some_append : (xs ys : List Disjunction) → (1 ≤ length xs) ⊎ (1 ≤ length ys) → 1 ≤ length (xs ++ ys)
some_append xs ys h = elim h [ inl p ↦ omega (arith, p, length-append xs ys) | inr q ↦ omega (arith, q, length-append xs ys) ]

abbrev HasSome : Written → Type 0
HasSome w = (known_truth w ≢ True → 1 ≤ length (plus w)) × (known_truth w ≢ False → 1 ≤ length (minus w))

some_rows : (w : Written) → HasSome w
some_rows (Known true) = (λ n. absurd (n refl), λ n. omega arith)
some_rows (Known false) = (λ n. omega arith, λ n. absurd (n refl))
some_rows (Fact l) = (λ n. omega arith, λ n. omega arith)
some_rows (Neg a) =
    let r = some_rows a in
    (some_truth (known_truth (Neg a)) (minus a) (λ e. r.1 (not_open (known_truth a) e).0), some_falsity (known_truth (Neg a)) (plus a) (λ e. r.0 (not_open (known_truth a) e).1))
some_rows (And a b) =
    let r = some_rows a in
    let s = some_rows b in (
      some_truth (known_truth (And a b)) (plus a ++ plus b) (λ e. some_append (plus a) (plus b) (elim ((and_open (known_truth a) (known_truth b) e).2) [ inl n ↦ inl (r.0 n) | inr n ↦ inr (s.0 n) ])),
      some_falsity (known_truth (And a b)) (joined (minus a) (minus b)) (λ e. (let o = and_open (known_truth a) (known_truth b) e in some_joined (minus a) (minus b) (r.1 o.0) (s.1 o.1))),
    )
some_rows (Or a b) =
    let r = some_rows a in
    let s = some_rows b in (
      some_truth (known_truth (Or a b)) (joined (plus a) (plus b)) (λ e. (let o = or_open (known_truth a) (known_truth b) e in some_joined (plus a) (plus b) (r.0 o.0) (s.0 o.1))),
      some_falsity (known_truth (Or a b)) (minus a ++ minus b) (λ e. some_append (minus a) (minus b) (elim ((or_open (known_truth a) (known_truth b) e).2) [ inl n ↦ inl (r.1 n) | inr n ↦ inr (s.1 n) ])),
    )
some_rows (Iff a b) =
    let r = some_rows a in
    let s = some_rows b in (
      some_truth (known_truth (Iff a b)) (joined (minus a) (plus b) ++ joined (plus a) (minus b)) (λ e. some_append (joined (minus a) (plus b)) (joined (plus a) (minus b)) (elim ((same_open (known_truth a) (known_truth b) e).0) [
        | inl n ↦ inl (some_joined (minus a) (plus b) (r.1 n.0) (s.0 n.1))
        | inr n ↦ inr (some_joined (plus a) (minus b) (r.0 n.0) (s.1 n.1))
      ])),
      some_falsity (known_truth (Iff a b)) (joined (minus a) (minus b) ++ joined (plus a) (plus b)) (λ e. some_append (joined (minus a) (minus b)) (joined (plus a) (plus b)) (elim ((same_open (known_truth a) (known_truth b) e).1) [
        | inl n ↦ inl (some_joined (minus a) (minus b) (r.1 n.0) (s.1 n.1))
        | inr n ↦ inr (some_joined (plus a) (plus b) (r.0 n.0) (s.0 n.1))
      ])),
    )

unknown_both : (t : Three) → t ≡ Unknown → (t ≢ True) × (t ≢ False)
unknown_both True e = absurd (let k : ⊥ = cc in k)
unknown_both False e = absurd (let k : ⊥ = cc in k)
unknown_both Unknown e = (unknown_true, unknown_false)

pub some_plus : (w : Written) → known_truth w ≡ Unknown → 1 ≤ length (plus w)
some_plus w e = (some_rows w).0 (unknown_both (known_truth w) e).0

pub some_minus : (w : Written) → known_truth w ≡ Unknown → 1 ≤ length (minus w)
some_minus w e = (some_rows w).1 (unknown_both (known_truth w) e).1
