-- Marks of formulas that are joined.
use Rattle.std.proofs.Common.{◌≡◌, ◌∙◌, refl, subst, ap, ap₂, ℕ, ◌+◌, ◌<◌, ◌≤◌, ◌*◌, ◌/◌, ◌%◌, ◌^◌, arith, inl, inr, ◌⊎◌, bit_and, bit_or}
use Rattle.std.specs.Int.{bit_at}
use Rattle.std.proofs.lemmas.Bool.{cases_lt}
use Rattle.std.proofs.lemmas.Nat.{pow_below, shl_whole, shr_below}
use Rattle.std.proofs.lemmas.Nat.Bits.{bit_at_and, bit_at_or, bit_at-pow_other}
use Rattle.meaning.specs.Clauses.{known_truth}
use Rattle.meaning.specs.declared.three.Three.{Three}
use Rattle.meaning.specs.declared.three.Three.TheVariants.{True, False, Unknown}
use Rattle.meaning.specs.Kleene.{three_and, three_not, three_or, three_same}
use Rattle.meaning.specs.Written.{And, Iff, Neg, Or, Written}
use Rattle.lanes.specs.declared.marks.Marks.{Marks}
use Rattle.lanes.specs.Lanes.{AreMoved}
use Rattle.lanes.specs.Marks.{IsTold}

-- a bit of a number is 0 or 1
bit : (n k : ℕ) → bit_at n k ≤ 1
bit n k = omega arith

and_left : (a b k : ℕ) → bit_at (bit_and a b) k ≡ 1 → bit_at a k ≡ 1
and_left a b k h = omega (arith, bit_at_and a b k, bit a k, bit b k, h)

and_right : (a b k : ℕ) → bit_at (bit_and a b) k ≡ 1 → bit_at b k ≡ 1
and_right a b k h = omega (arith, bit_at_and a b k, bit a k, bit b k, h)

or_either : (a b k : ℕ) → bit_at (bit_or a b) k ≡ 1 → (bit_at a k ≡ 1) ⊎ (bit_at b k ≡ 1)
or_either a b k h = elim (cases_lt 0 (bit_at a k)) [
  | inl some ↦ inl (omega (arith, bit a k, some))
  | inr none ↦ inr (omega (arith, bit_at_or a b k, bit b k, h, none))
]

and_no : (s t : Three) → (s ≡ False) ⊎ (t ≡ False) → three_and s t ≡ False
and_no s t (inl e) = ap (λ u. three_and u t) e
and_no True t (inr e) = e
and_no False t (inr e) = refl
and_no Unknown t (inr e) = ap (λ u. three_and Unknown u) e

or_yes : (s t : Three) → (s ≡ True) ⊎ (t ≡ True) → three_or s t ≡ True
or_yes s t (inl e) = ap (λ u. three_or u t) e
or_yes True t (inr e) = refl
or_yes False t (inr e) = e
or_yes Unknown t (inr e) = ap (λ u. three_or Unknown u) e

module _ (a b : Marks) (k : ℕ) (x y : Written) (h : IsTold a k x) (i : IsTold b k y) where
  pub and_told : IsTold (record { yes = bit_and a.yes b.yes; no = bit_or a.no b.no }) k (And x y)
  and_told = record {
    yes = λ e. ap₂ three_and (h.yes (and_left a.yes b.yes k e)) (i.yes (and_right a.yes b.yes k e));
    no = λ e. and_no (known_truth x) (known_truth y) (elim (or_either a.no b.no k e) [ inl l ↦ inl (h.no l) | inr r ↦ inr (i.no r) ]);
  }

  pub or_told : IsTold (record { yes = bit_or a.yes b.yes; no = bit_and a.no b.no }) k (Or x y)
  or_told = record {
    yes = λ e. or_yes (known_truth x) (known_truth y) (elim (or_either a.yes b.yes k e) [ inl l ↦ inl (h.yes l) | inr r ↦ inr (i.yes r) ]);
    no = λ e. ap₂ three_or (h.no (and_left a.no b.no k e)) (i.no (and_right a.no b.no k e));
  }

  pub iff_told : IsTold (record { yes = bit_or (bit_and a.yes b.yes) (bit_and a.no b.no); no = bit_or (bit_and a.yes b.no) (bit_and a.no b.yes) }) k (Iff x y)
  iff_told = record {
    yes = λ e. elim (or_either (bit_and a.yes b.yes) (bit_and a.no b.no) k e) [
      | inl l ↦ ap₂ three_same (h.yes (and_left a.yes b.yes k l)) (i.yes (and_right a.yes b.yes k l))
      | inr r ↦ ap₂ three_same (h.no (and_left a.no b.no k r)) (i.no (and_right a.no b.no k r))
    ];
    no = λ e. elim (or_either (bit_and a.yes b.no) (bit_and a.no b.yes) k e) [
      | inl l ↦ ap₂ three_same (h.yes (and_left a.yes b.no k l)) (i.no (and_right a.yes b.no k l))
      | inr r ↦ ap₂ three_same (h.no (and_left a.no b.yes k r)) (i.yes (and_right a.no b.yes k r))
    ];
  }

pub not_told : (a : Marks) (k : ℕ) (x : Written) → IsTold a k x → IsTold (record { yes = a.no; no = a.yes }) k (Neg x)
not_told a k x h = record { yes = λ e. ap three_not (h.no e); no = λ e. ap three_not (h.yes e) }

pub with_one : (word k : ℕ) → k < 64 → (j : ℕ) → bit_at (bit_or word (1 * 2 ^ k % 18446744073709551616)) j ≡ 1 → (bit_at word j ≡ 1) ⊎ (j ≡ k)
with_one word k h j e = elim (or_either word (1 * 2 ^ k % 18446744073709551616) j e) [
  | inl old ↦ inl old
  | inr new ↦ inr (at_k (subst (λ n. bit_at n j ≡ 1) whole new))
]
  where
    whole : 1 * 2 ^ k % 18446744073709551616 ≡ 2 ^ k
    whole = let w : 1 * 2 ^ k % 2 ^ 64 ≡ 1 * 2 ^ k = shl_whole 1 1 k 64 (omega arith) (omega (arith, h)) in w ∙ (omega arith)

    at_k : bit_at (2 ^ k) j ≡ 1 → j ≡ k
    at_k b = elim (cases_lt j k) [
      | inl low ↦ absurd (let z = bit_at-pow_other k j (λ (s : j ≡ k). omega (arith, low, s)) in omega (arith, z, b))
      | inr high ↦ elim (cases_lt k j) [
        | inl above ↦ absurd (let z = bit_at-pow_other k j (λ (s : j ≡ k). omega (arith, above, s)) in omega (arith, z, b))
        | inr low ↦ omega (arith, high, low)
      ]
    ]

-- a number of 64 bits has no bit beyond them
no_more : (n j : ℕ) → n < 18446744073709551616 → 64 ≤ j → bit_at n j ≡ 0
no_more n j small high =
    let below : n < 2 ^ j = elim (cases_lt 64 j) [
      | inl more ↦ (let p : 2 ^ 64 < 2 ^ j = pow_below 64 j more in omega (arith, small, p))
      | inr less ↦ subst (λ k. n < 2 ^ k) (let e : 64 ≡ j = omega (arith, high, less) in e) small
    ] in
    let none : n / 2 ^ j < 1 = shr_below n 0 j (subst (λ k. n < 2 ^ k) (let e : j ≡ 0 + j = omega arith in e) below) in
    omega (arith, none)

pub whole_moved : (word done other shift lanes : ℕ) → lanes ≡ 64 → done + lanes ≤ 64 → shift + lanes ≤ 64 → other < 18446744073709551616 → AreMoved word done lanes other shift (bit_or word other)
whole_moved word done other shift lanes e d s small j h = elim (or_either word other j h) [
  | inl old ↦ inl old
  | inr new ↦ inr (j, low new, (omega (arith, e, d)), subst (λ n. bit_at other n ≡ 1) (let same : j ≡ shift + j = omega (arith, e, s) in same) new)
]
  where
    low : bit_at other j ≡ 1 → j < lanes
    low new = elim (cases_lt j 64) [
      | inl below ↦ omega (arith, e, below)
      | inr high ↦ absurd (let z = no_more other j small high in omega (arith, z, new))
    ]
