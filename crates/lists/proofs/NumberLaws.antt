-- Numbers that a test compares.
use Rattle.std.proofs.Common.{◌≡◌, sym, ◌∙◌, refl, ℕ, ◌<◌, ◌≤◌, Bool, true, false, inl, inr, arith, eqb-true, eq-eqb, true≢false}
use Rattle.std.specs.Prelude.{◌==◌}
use Rattle.std.proofs.lemmas.Bool.{both_ways, cases_lt, false_from_ne_true}

-- tests of numbers that are equal together
pub same_test : (a b c d : ℕ) → (a ≡ b → c ≡ d) → (c ≡ d → a ≡ b) → (a == b) ≡ (c == d)
same_test a b c d f g = cases (a == b) refl
  where
    cases : (t : Bool) → (a == b) ≡ t → t ≡ (c == d)
    cases true e = sym (eq-eqb c d (f (eqb-true a b e)))
    cases false e = sym (false_from_ne_true (c == d) (λ h. both_ways (a == b) e (eq-eqb a b (g (eqb-true c d h)))))

-- what is not above, and another number, is below
pub less_of : (n m : ℕ) → n ≤ m → (n == m) ≡ false → n < m
less_of n m h e = elim (cases_lt n m) [
  | inl l ↦ l
  | inr ge ↦ absurd (true≢false (sym (eq-eqb n m (omega (arith, h, ge))) ∙ e))
]
