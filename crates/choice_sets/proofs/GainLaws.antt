-- When a voter gains, and what the sentence `strategyproof` says.
use Rattle.std.proofs.Common.{◌≡◌, refl, sym, ◌∙◌, ap, subst, ℕ, ◌-◌, ◌^◌, ◌<◌, Bool, true, false, not, ◌&&◌, ◌||◌, inl, inr, arith, true≢false, eq-eqb, eqb-true}
use Rattle.std.specs.Prelude.{◌==◌}
use Rattle.std.specs.Bool.{beq}
use Rattle.std.specs.List.{list_all}
use Rattle.std.proofs.lemmas.Bool.{and_from, and_parts, both_ways, false_from_ne_true, or_cases, or_left, or_right}
use Rattle.cnf.proofs.LitLaws.{beq-equal, beq-refl}
use Rattle.meaning.specs.Space.{below}
use Rattle.meaning.specs.Subsets.{elements, is_element}
use Rattle.meaning.proofs.SpaceLaws.{all_at, all_from}
use Rattle.meaning.proofs.SubsetLaws.{same_set, some_element}
use Rattle.choice_sets.proofs.KeptLemmas.{all_kept, at_kept}

not_implies : (a b r : Bool) → a ≡ true → b ≡ true → (not (a && b) || r) ≡ true → r ≡ true
not_implies true true r e f h = h
not_implies false b r e f h = absurd (true≢false (sym e))
not_implies true false r e f h = absurd (true≢false (sym f))

implies_from : (a b r : Bool) → (a ≡ true → b ≡ true → r ≡ true) → (not (a && b) || r) ≡ true
implies_from true true r h = h refl refl
implies_from true false r h = refl
implies_from false b r h = refl

-- two sets, by their codes, and which of two alternatives stands above the other
module _ (m : ℕ) (above : ℕ → ℕ → Bool) (X Y : ℕ) (in_X : X < 2 ^ m - 1) (in_Y : Y < 2 ^ m - 1) where
  -- as the sentence says that each element of Y is as good as each of X
  abbrev pub pair_fits : ℕ → ℕ → Bool
  pair_fits x y = not (is_element X x && is_element Y y) || (x == y || above y x)

  abbrev pub premise : Bool
  premise = list_all (λ x. list_all (pair_fits x) (below m)) (below m)

  -- and that the sets are the same then
  abbrev pub told : Bool
  told = list_all (λ z. not premise || beq (is_element X z) (is_element Y z)) (below m)

  -- as the definition of gains says it
  abbrev pub good : Bool
  good = list_all (λ y. list_all (λ x. y == x || above y x) (elements m X)) (elements m Y)

  pair_at : premise ≡ true → (x y : ℕ) → x < m → y < m → is_element X x ≡ true → is_element Y y ≡ true → (x == y || above y x) ≡ true
  pair_at h x y in_x in_y ex ey =
      let row = all_at (λ v. list_all (pair_fits v) (below m)) m 0 x h (omega arith) (omega (arith, in_x)) in
      not_implies (is_element X x) (is_element Y y) _ ex ey (all_at (pair_fits x) m 0 y row (omega arith) (omega (arith, in_y)))

  turned : (x y : ℕ) → (x == y || above y x) ≡ true → (y == x || above y x) ≡ true
  turned x y h = elim (or_cases (x == y) (above y x) h) [
    | inl e ↦ or_left _ _ (eq-eqb y x (sym (eqb-true x y e)))
    | inr e ↦ or_right _ _ e
  ]

  good_from : premise ≡ true → good ≡ true
  good_from h = all_kept _ (is_element Y) m (λ y in_y ey. all_kept _ (is_element X) m (λ x in_x ex. turned x y (pair_at h x y in_x in_y ex ey)))

  premise_from : good ≡ true → premise ≡ true
  premise_from h =
      all_from (λ x. list_all (pair_fits x) (below m)) m 0 (λ x low high. all_from (pair_fits x) m 0 (λ y low' high'. implies_from (is_element X x) (is_element Y y) _ (λ ex ey.
      let row = at_kept (λ v. list_all (λ u. v == u || above v u) (elements m X)) (is_element Y) m y h (omega (arith, high')) ey in
      turned' x y (at_kept (λ u. y == u || above y u) (is_element X) m x row (omega (arith, high)) ex))))
    where
      turned' : (x y : ℕ) → (y == x || above y x) ≡ true → (x == y || above y x) ≡ true
      turned' x y g = elim (or_cases (y == x) (above y x) g) [
        | inl e ↦ or_left _ _ (eq-eqb x y (sym (eqb-true y x e)))
        | inr e ↦ or_right _ _ e
      ]

  -- the sets are the same where the sentence says so
  same_from : told ≡ true → premise ≡ true → X ≡ Y
  same_from h good_pair = same_set m X Y in_X in_Y (λ z in_z. beq-equal _ _ (of_premise premise _ good_pair (all_at (λ v. not premise || beq (is_element X v) (is_element Y v)) m 0 z h (omega arith) (omega (arith, in_z)))))
    where
      of_premise : (p r : Bool) → p ≡ true → (not p || r) ≡ true → r ≡ true
      of_premise true r e g = g
      of_premise false r e g = absurd (true≢false (sym e))

  told_from : (premise ≡ true → X ≡ Y) → told ≡ true
  told_from same = by_premise premise refl
    where
      by_premise : (p : Bool) → premise ≡ p → told ≡ true
      by_premise false e = all_from _ m 0 (λ z low high. ap (λ p. not p || beq (is_element X z) (is_element Y z)) e)
      by_premise true e = all_from _ m 0 (λ z low high. or_right _ _ (ap (λ (code : ℕ). beq (is_element code z) (is_element Y z)) (same e) ∙ beq-refl (is_element Y z)))

  -- where nothing stands above anything, as good means the same
  unranked : ((y x : ℕ) → above y x ≡ false) → premise ≡ true → X ≡ Y
  unranked none h = same_set m X Y in_X in_Y (λ z in_z. agree z in_z (is_element X z) (is_element Y z) refl refl)
    where
      equal : (x y : ℕ) → x < m → y < m → is_element X x ≡ true → is_element Y y ≡ true → x ≡ y
      equal x y in_x in_y ex ey = elim (or_cases (x == y) (above y x) (pair_at h x y in_x in_y ex ey)) [ inl e ↦ eqb-true x y e | inr e ↦ absurd (both_ways _ (none y x) e) ]

      agree : (z : ℕ) → z < m → (a b : Bool) → is_element X z ≡ a → is_element Y z ≡ b → is_element X z ≡ is_element Y z
      agree z in_z true true ex ey = ex ∙ sym ey
      agree z in_z false false ex ey = ex ∙ sym ey
      agree z in_z true false ex ey =
          let other = some_element m Y in_Y in
          absurd (both_ways _ ey (subst (λ (v : ℕ). is_element Y v ≡ true) (sym (equal z other.0 in_z other.1 ex other.2)) other.2))
      agree z in_z false true ex ey =
          let other = some_element m X in_X in
          absurd (both_ways _ ex (subst (λ (v : ℕ). is_element X v ≡ true) (equal other.0 z other.1 in_z other.2 ey) other.2))

  -- ---- both ways

  pub no_gain : (present : Bool) → told ≡ true → (present && not (Y == X) && good) ≡ false
  no_gain present h = false_from_ne_true _ (λ g.
      let e = and_parts (present && not (Y == X)) good g in
      let other = (and_parts present (not (Y == X)) e.0).1 in
      both_ways _ (ap not (eq-eqb Y X (sym (same_from h (premise_from e.1))))) other)

  pub sentence : (present : Bool) → (present ≡ false → (y x : ℕ) → above y x ≡ false) → (present && not (Y == X) && good) ≡ false → told ≡ true
  sentence false absent h = told_from (unranked (absent refl))
  sentence true absent h = told_from (λ e. by_code (Y == X) refl (good_from e))
    where
      by_code : (b : Bool) → (Y == X) ≡ b → good ≡ true → X ≡ Y
      by_code true f g = sym (eqb-true Y X f)
      by_code false f g = absurd (both_ways _ h (and_from _ _ (and_from true (not (Y == X)) refl (ap not f)) g))
