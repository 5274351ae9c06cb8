-- All axioms of a study, by place, and the members of lists of places.
use Rattle.std.proofs.Common.{◌≡◌, refl, sym, ap, subst, ℕ, zero, suc, ◌+◌, ◌<◌, Bool, true, not, List, [], ◌∷◌, inl, inr, arith, eqb-true, eq-eqb, true≢false, lt-ltb, ltb-true}
use Rattle.std.specs.Prelude.{◌==◌, nat_lt}
use Rattle.std.specs.List.{list_all}
use Rattle.std.proofs.lemmas.Bool.{and_parts, and_from, or_cases, or_left, or_right, false_from_ne_true}
use Rattle.meaning.specs.Cores.{is_core_from}
use Rattle.meaning.specs.Space.{up_from, below}
use Rattle.search_logs.specs.Spent.{has_place}

core_all : (a n : ℕ) → is_core_from a (a + n) (up_from a n) ≡ true
core_all a zero = refl
core_all a (suc n) =
    let lt : a < a + suc n = omega arith in
    let up : suc a + n ≡ a + suc n = omega arith in
    let next : suc a ≡ a + 1 = omega arith in
    and_from _ _
    (and_from _ _ (ap not (false_from_ne_true (nat_lt a a) (λ e. let l = ltb-true a a e in absurd (omega (arith, l))))) (lt-ltb _ _ lt))
    (subst (λ (f : ℕ). is_core_from f (a + suc n) (up_from (suc a) n) ≡ true) next (subst (λ (e : ℕ). is_core_from (suc a) e (up_from (suc a) n) ≡ true) up (core_all (suc a) n)))

pub core_below : (n : ℕ) → is_core_from 0 n (below n) ≡ true
core_below n = let e : 0 + n ≡ n = omega arith in subst (λ (m : ℕ). is_core_from 0 m (below n) ≡ true) e (core_all 0 n)

-- ---- members

-- a member of a list passes what all pass
pub member_passes : (test : ℕ → Bool) (xs : List ℕ) (c : ℕ) → list_all test xs ≡ true → has_place xs c ≡ true → test c ≡ true
member_passes test [] c h m = absurd (true≢false (sym m))
member_passes test (x ∷ xs) c h m =
    let e = and_parts (test x) (list_all test xs) h in
    elim (or_cases (x == c) (has_place xs c) m) [ inl f ↦ subst (λ (y : ℕ). test y ≡ true) (eqb-true x c f) e.0 | inr f ↦ member_passes test xs c e.1 f ]

-- a test that each member of a list passes
pub each_member : (test : ℕ → Bool) (xs : List ℕ) → ((c : ℕ) → has_place xs c ≡ true → test c ≡ true) → list_all test xs ≡ true
each_member test [] h = refl
each_member test (x ∷ xs) h = and_from _ _ (h x (or_left _ _ (eq-eqb x x refl))) (each_member test xs (λ c e. h c (or_right _ _ e)))
