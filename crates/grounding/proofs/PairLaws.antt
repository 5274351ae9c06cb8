-- A rising list has neighbours of one variable exactly where its clause is a tautology.
use Rattle.std.proofs.Common.{◌≡◌, ◌<◌, ◌+◌, ◌*◌, ◌/◌, ◌==◌, ℕ, Bool, true, false, ◌||◌, not, nat_eq, List, [], ◌∷◌, refl, sym, ◌∙◌, subst, arith, true≢false, inl, inr, if◌then◌else◌}
use Rattle.std.specs.Prelude.{All}
use Rattle.std.proofs.lemmas.List.Elements.{All-head}
use Rattle.std.specs.List.{list_any}
use Rattle.std.proofs.lemmas.Bool.{cases_lt, or_cases, or_left, or_right}
use Rattle.cnf.specs.Signed.{Signed, literal_code}
use Rattle.cnf.specs.Sat.{Clause, has_lit, is_tautology, opposite_lit, same_lit}
use Rattle.cnf.proofs.LitLaws.{same_lit-equal, same_lit-refl}
use Rattle.grounding.specs.Distinct.{codes_of}
use Rattle.grounding.specs.Rising.{RisesFrom, includes, pair_after}
use Rattle.grounding.proofs.RisingLaws.{above_not}
use Rattle.grounding.proofs.SortLaws.{has_codes}

-- what is in a rising list is above what comes before it
has_above : (n k : ℕ) (xs : List ℕ) → RisesFrom n xs → includes xs k ≡ true → n < k
has_above n k xs h e = elim (cases_lt n k) [ inl l ↦ l | inr l ↦ absurd (true≢false (sym e ∙ above_not n k xs h l)) ]

-- both signs of a variable are neighbours
pub pair_there : (n v w : ℕ) (xs : List ℕ) → RisesFrom n xs → includes xs (2 * v) ≡ true → includes xs (2 * v + 1) ≡ true → pair_after w xs ≡ true
pair_there n v w [] h e f = absurd (true≢false (sym e))
pair_there n v w (x ∷ xs) h e f = elim (or_cases (nat_eq (2 * v) x) (includes xs (2 * v)) e) [
  | inl first ↦ (let s : 2 * v ≡ x = grind (arith, first) in
      elim (or_cases (nat_eq (2 * v + 1) x) (includes xs (2 * v + 1)) f) [
        | inl g ↦ absurd (let t : 2 * v + 1 ≡ x = grind (arith, g) in let z : ⊥ = omega (arith, s, t) in z)
        | inr g ↦ or_right (x / 2 == w) (pair_after (x / 2) xs) (next x v xs s h.1 g)
      ])
  | inr rest ↦ or_right (x / 2 == w) (pair_after (x / 2) xs) (elim (or_cases (nat_eq (2 * v + 1) x) (includes xs (2 * v + 1)) f) [
    | inl g ↦ absurd (let t : 2 * v + 1 ≡ x = grind (arith, g) in let b = has_above x (2 * v) xs h.1 rest in let z : ⊥ = omega (arith, t, b) in z)
    | inr g ↦ pair_there x v (x / 2) xs h.1 rest g
  ])
]
  where
    next : (x v : ℕ) (xs : List ℕ) → 2 * v ≡ x → RisesFrom x xs → includes xs (2 * v + 1) ≡ true → pair_after (x / 2) xs ≡ true
    next x v [] s h g = absurd (true≢false (sym g))
    next x v (y ∷ ys) s h g = elim (or_cases (nat_eq (2 * v + 1) y) (includes ys (2 * v + 1)) g) [
      | inl here ↦ (let t : 2 * v + 1 ≡ y = grind (arith, here) in
          let u : y / 2 ≡ x / 2 = omega (arith, s, t) in
          or_left (y / 2 == x / 2) (pair_after (y / 2) ys) (let z : (y / 2 == x / 2) ≡ true = grind (arith, u) in z))
      | inr there ↦ absurd (let b = has_above y (2 * v + 1) ys h.1 there in let z : ⊥ = omega (arith, h.0, s, b) in z)
    ]

-- neighbours of one variable are its two signs
pub pair_found : (n : ℕ) (xs : List ℕ) → RisesFrom n xs → pair_after (n / 2) xs ≡ true → (v : ℕ) × (nat_eq (2 * v) n || includes xs (2 * v) ≡ true) × (includes xs (2 * v + 1) ≡ true)
pair_found n [] h e = absurd (true≢false (sym e))
pair_found n (x ∷ xs) h e = elim (or_cases (x / 2 == n / 2) (pair_after (x / 2) xs) e) [
  | inl same ↦ (let s : x / 2 ≡ n / 2 = grind (arith, same) in
      let p : n ≡ 2 * (n / 2) = omega (arith, h.0, s) in
      let q : x ≡ 2 * (n / 2) + 1 = omega (arith, h.0, s) in
      (n / 2, or_left (nat_eq (2 * (n / 2)) n) (includes (x ∷ xs) (2 * (n / 2))) (let z : nat_eq (2 * (n / 2)) n ≡ true = grind (arith, p) in z), or_left (nat_eq (2 * (n / 2) + 1) x) (includes xs (2 * (n / 2) + 1)) (let z : nat_eq (2 * (n / 2) + 1) x ≡ true = grind (arith, q) in z)))
  | inr rest ↦ (let r = pair_found x xs h.1 rest in (r.0, or_right (nat_eq (2 * r.0) n) (includes (x ∷ xs) (2 * r.0)) r.1, or_right (nat_eq (2 * r.0 + 1) x) (includes xs (2 * r.0 + 1)) r.2))
]

-- ---- tautologies

-- a literal whose opposite is there too
any_found : (row part : Clause) → list_any (λ l. has_lit row (opposite_lit l)) part ≡ true → (l : Signed) × (has_lit part l ≡ true) × (has_lit row (opposite_lit l) ≡ true)
any_found row [] e = absurd (true≢false (sym e))
any_found row (l ∷ part) e = elim (or_cases (has_lit row (opposite_lit l)) (list_any (λ k. has_lit row (opposite_lit k)) part) e) [
  | inl here ↦ (l, or_left (same_lit l l) (has_lit part l) (same_lit-refl l), here)
  | inr there ↦ (let r = any_found row part there in (r.0, or_right (same_lit r.0 l) (has_lit part r.0) r.1, r.2))
]

any_there : (row part : Clause) (l : Signed) → has_lit part l ≡ true → has_lit row (opposite_lit l) ≡ true → list_any (λ k. has_lit row (opposite_lit k)) part ≡ true
any_there row [] l e o = absurd (true≢false (sym e))
any_there row (k ∷ part) l e o = elim (or_cases (same_lit l k) (has_lit part l) e) [
  | inl here ↦ or_left (has_lit row (opposite_lit k)) (list_any (λ j. has_lit row (opposite_lit j)) part) (subst (λ j. has_lit row (opposite_lit j) ≡ true) (same_lit-equal l k here) o)
  | inr there ↦ or_right (has_lit row (opposite_lit k)) (list_any (λ j. has_lit row (opposite_lit j)) part) (any_there row part l there o)
]

-- ---- a row and the rising list of its codes

module _ (row : Clause) (merged : List ℕ) (h : RisesFrom 1 merged) (same : (k : ℕ) → includes merged k ≡ includes (codes_of row) k) where
  in_merged : (l : Signed) → has_lit row l ≡ true → includes merged (literal_code l) ≡ true
  in_merged l e = same (literal_code l) ∙ has_codes row l ∙ e

  pub tautology_pair : is_tautology row ≡ true → pair_after 0 merged ≡ true
  tautology_pair e =
      let r = any_found row row e in
      by r.0.variable r.0.positive (in_merged r.0 r.1) (in_merged (opposite_lit r.0) r.2)
    where
      by : (v : ℕ) (p : Bool) → includes merged (2 * v + (if p then 1 else 0)) ≡ true → includes merged (2 * v + (if not p then 1 else 0)) ≡ true → pair_after 0 merged ≡ true
      by v true a b = pair_there 1 v 0 merged h (subst (λ (k : ℕ). includes merged k ≡ true) (let z : 2 * v + 0 ≡ 2 * v = omega arith in z) b) a
      by v false a b = pair_there 1 v 0 merged h (subst (λ (k : ℕ). includes merged k ≡ true) (let z : 2 * v + 0 ≡ 2 * v = omega arith in z) a) b

  pub pair_tautology : pair_after 0 merged ≡ true → is_tautology row ≡ true
  pair_tautology e =
      let r = pair_found 1 merged h e in
      let low : includes merged (2 * r.0) ≡ true = elim (or_cases (nat_eq (2 * r.0) 1) (includes merged (2 * r.0)) r.1) [
        | inl odd ↦ absurd (let s : 2 * r.0 ≡ 1 = grind (arith, odd) in let z : ⊥ = omega (arith, s) in z)
        | inr there ↦ there
      ] in
      let l : Signed = record { variable = r.0; positive = false } in
      let m : Signed = record { variable = r.0; positive = true } in
      any_there row row l
      (sym (has_codes row l) ∙ sym (same (literal_code l)) ∙ subst (λ (k : ℕ). includes merged k ≡ true) (let z : 2 * r.0 ≡ 2 * r.0 + 0 = omega arith in z) low)
      (sym (has_codes row m) ∙ sym (same (literal_code m)) ∙ r.2)

  pub pair_is : pair_after 0 merged ≡ is_tautology row
  pair_is = by (pair_after 0 merged) (is_tautology row) tautology_pair pair_tautology
    where
      by : (a b : Bool) → (b ≡ true → a ≡ true) → (a ≡ true → b ≡ true) → a ≡ b
      by true b f g = sym (g refl)
      by false true f g = f refl
      by false false f g = refl

pub above_one : (ns : List ℕ) → RisesFrom 0 ns → All (λ n. 1 < n) ns → RisesFrom 1 ns
above_one [] h s = record {}
above_one (n ∷ ns) h s = (All-head (λ k. 1 < k) n ns s, h.1)
