-- Known literals at a profile, by the variables of the profile.
use Rattle.std.proofs.Common.{◌≡◌, refl, sym, ap, subst, ℕ, ◌+◌, ◌*◌, ◌<◌, ◌≤◌, Bool, true, false, not, cond, ◌&&◌, inl, inr, List, [], ◌∷◌, filter, arith, true≢false, eqb-true, eq-eqb, eq-or-lt_of_le, mul-le-mul}
use Rattle.std.specs.Prelude.{◌==◌}
use Rattle.std.specs.List.{list_all}
use Rattle.std.proofs.lemmas.Bool.{and_parts, and_from, or_cases, or_left, or_right, both_ways, false_from_ne_true, not-true, cases_Bool}
use Rattle.vocab.specs.declared.kinds.Sort.TheVariants.{Profile}
use Rattle.vocab.specs.declared.literals.Literal.{Literal}
use Rattle.vocab.specs.Literal.{same_literal, has, profile_of}
use Rattle.vocab.specs.Size.{Extent, IsSize, sort_count, outcome_count}
use Rattle.cnf.specs.Signed.{Signed}
use Rattle.meaning.specs.Literals.{is_literal}
use Rattle.meaning.specs.Stories.{is_outcome_excluded}
use Rattle.meaning.specs.Truth.{holds_of}
use Rattle.meaning.specs.Variables.{bits, lit_of, literal_of}
use Rattle.meaning.proofs.LiteralLaws.{same_literal-equal, same_literal-refl, profile_in}
use Rattle.meaning.proofs.ValueLoops.{any_holds}
use Rattle.meaning.proofs.SpaceLaws.{some_outcome}
use Rattle.meaning.proofs.VariableLaws.{are_variables}
use Rattle.worlds.proofs.BoardLemmas.{all_has}

-- ---- those of a list that pass a test

module _ (t q : Literal → Bool) where
  kept : (x : Literal) (ls : List Literal) → q x ≡ true → filter q (x ∷ ls) ≡ x ∷ filter q ls
  kept x ls e = ap (λ b. cond b (x ∷ filter q ls) (filter q ls)) e

  left_out : (x : Literal) (ls : List Literal) → q x ≡ false → filter q (x ∷ ls) ≡ filter q ls
  left_out x ls e = ap (λ b. cond b (x ∷ filter q ls) (filter q ls)) e

  all_kept : (ls : List Literal) → ((l : Literal) → has ls l ≡ true → q l ≡ true → t l ≡ true) → list_all t (filter q ls) ≡ true
  all_kept [] h = refl
  all_kept (x ∷ ls) h =
      let rest = all_kept ls (λ l m. h l (or_right _ _ m)) in
      elim (cases_Bool (q x)) [
        | inl e ↦ subst (λ r. list_all t r ≡ true) (sym (kept x ls e)) (and_from _ _ (h x (or_left _ _ (same_literal-refl x)) e) rest)
        | inr e ↦ subst (λ r. list_all t r ≡ true) (sym (left_out x ls e)) rest
      ]

  of_kept : (ls : List Literal) (l : Literal) → list_all t (filter q ls) ≡ true → has ls l ≡ true → q l ≡ true → t l ≡ true
  of_kept [] l h m k = absurd (true≢false (sym m))
  of_kept (x ∷ ls) l h m k =
      elim (cases_Bool (q x)) [
        | inl e ↦
            let p = and_parts (t x) (list_all t (filter q ls)) (subst (λ r. list_all t r ≡ true) (kept x ls e) h) in
            elim (or_cases (same_literal l x) (has ls l) m) [
              | inl s ↦ subst (λ y. t y ≡ true) (sym (same_literal-equal l x s)) p.0
              | inr s ↦ of_kept ls l p.1 s k
            ]
        | inr e ↦
            elim (or_cases (same_literal l x) (has ls l) m) [
              | inl s ↦ absurd (both_ways _ e (subst (λ y. q y ≡ true) (same_literal-equal l x s) k))
              | inr s ↦ of_kept ls l (subst (λ r. list_all t r ≡ true) (left_out x ls e) h) s k
            ]
      ]

-- ---- outcomes and variables

-- and their numbers fit
pub numbers_fit : (p n count : ℕ) → p < count → count ≤ 20000 → n ≤ 10 → p * n ≤ 200000
numbers_fit p n count lt few small =
    let less : p ≤ 20000 = omega arith in
    let product : p * n ≤ 20000 * 10 = mul-le-mul less small in
    omega arith

-- ---- the literals at a profile

module _ (size : Extent) (known : List Literal) (outcome p : ℕ) where
  -- the literals of the profile's variables up to one hold of the outcome, where they are known
  abbrev pub AreChecked : ℕ → Type 0
  AreChecked last = (s : Signed) → p * bits size.kind size.alternatives + 1 ≤ s.variable → s.variable ≤ last → has known (literal_of size s) ≡ true → holds_of size outcome (literal_of size s) ≡ true

  -- a known literal does not hold
  abbrev pub is_failing : Signed → Bool
  is_failing s = has known (literal_of size s) && not (holds_of size outcome (literal_of size s))

  fine : (s : Signed) → is_failing s ≡ false → has known (literal_of size s) ≡ true → holds_of size outcome (literal_of size s) ≡ true
  fine s h m = elim (cases_Bool (holds_of size outcome (literal_of size s))) [
    | inl e ↦ e
    | inr e ↦ absurd (both_ways _ h (and_from _ _ m (ap not e)))
  ]

  pub checked_more : (v : ℕ) → AreChecked v → is_failing (record { variable = v + 1; positive = true }) ≡ false → is_failing (record { variable = v + 1; positive = false }) ≡ false → AreChecked (v + 1)
  checked_more v before upright turned s low high m = elim (eq-or-lt_of_le high) [
    | inl e ↦ fine s (signs s.variable s.positive e) m
    | inr lt ↦ before s low (omega (arith, lt)) m
  ]
    where
      signs : (w : ℕ) (b : Bool) → w ≡ v + 1 → is_failing (record { variable = w; positive = b }) ≡ false
      signs w true e = subst (λ u. is_failing (record { variable = u; positive = true }) ≡ false) (sym e) upright
      signs w false e = subst (λ u. is_failing (record { variable = u; positive = false }) ≡ false) (sym e) turned

  pub checked_all : list_all (is_literal size) known ≡ true → AreChecked (p * bits size.kind size.alternatives + bits size.kind size.alternatives) →
      list_all (holds_of size outcome) (filter (λ l. profile_of l == p) known) ≡ true
  checked_all ours all = all_kept (holds_of size outcome) (λ l. profile_of l == p) known (λ l m here.
      let laws = are_variables size in
      let own : is_literal size l ≡ true = all_has (is_literal size) known l ours m in
      let at_p : profile_of l ≡ p = eqb-true (profile_of l) p here in
      let range = laws.from_profile l own in
      let n = bits size.kind size.alternatives in
      let low : p * n + 1 ≤ (lit_of size l).variable = subst (λ q. q * n + 1 ≤ (lit_of size l).variable) at_p range.0 in
      let high : (lit_of size l).variable ≤ (p + 1) * n = subst (λ q. (lit_of size l).variable ≤ (q + 1) * n) at_p range.1 in
      let is : literal_of size (lit_of size l) ≡ l = laws.of_variable l own in
      subst (λ k. holds_of size outcome k ≡ true) is (all (lit_of size l) low (omega (arith, high)) (subst (λ k. has known k ≡ true) (sym is) m)))

  pub fails_there : (s : Signed) → p * bits size.kind size.alternatives + 1 ≤ s.variable → s.variable ≤ (p + 1) * bits size.kind size.alternatives → is_failing s ≡ true →
      list_all (holds_of size outcome) (filter (λ l. profile_of l == p) known) ≡ false
  fails_there s low high fails =
      let laws = are_variables size in
      let parts = and_parts (has known (literal_of size s)) (not (holds_of size outcome (literal_of size s))) fails in
      let at_p : (profile_of (literal_of size s) == p) ≡ true = eq-eqb (profile_of (literal_of size s)) p (laws.to_profile p s low high) in
      false_from_ne_true _ (λ e. both_ways _ (not-true _ parts.1) (of_kept (holds_of size outcome) (λ l. profile_of l == p) known (literal_of size s) e parts.0 at_p))

-- at a profile that there is not no literal is known, and so no outcome is excluded
pub excluded_nowhere : (size : Extent) → IsSize size → (known : List Literal) (p : ℕ) → list_all (is_literal size) known ≡ true → sort_count size Profile ≤ p → is_outcome_excluded size known p ≡ false
excluded_nowhere size valid known p ours far =
    let some = some_outcome size.kind size.alternatives valid.some_alternative in
    ap not (any_holds (λ o. list_all (holds_of size o) (filter (λ l. profile_of l == p) known)) (outcome_count size.kind size.alternatives) 0 some
    (all_kept (holds_of size 0) (λ l. profile_of l == p) known (λ l m here.
    let own : is_literal size l ≡ true = all_has (is_literal size) known l ours m in
    let lt : profile_of l < sort_count size Profile = profile_in size size.kind l own in
    let at_p : profile_of l ≡ p = eqb-true (profile_of l) p here in
    absurd (omega arith))))
