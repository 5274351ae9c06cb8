-- Orders of lists of numbers in which the first two numbers that differ decide, and a list comes before those that go on after it.
use Rattle.std.proofs.Common.{◌≡◌, sym, ◌∙◌, subst, ℕ, Bool, true, false, ◌&&◌, ◌||◌, ◌⊎◌, inl, inr, List, [], ◌∷◌, arith, true≢false, eqb-true, ltb-true, lt-ltb}
use Rattle.std.specs.Prelude.{◌==◌, nat_lt}
use Rattle.std.proofs.lemmas.Bool.{and_parts, and_from, or_left, or_right, or_cases}

-- a test is such an order
pub record IsLexicographic (R : List ℕ → List ℕ → Bool) : Type 0 where
  pub none : R [] [] ≡ false
  pub more : (y : ℕ) (b : List ℕ) → R [] (y ∷ b) ≡ true
  pub fewer : (x : ℕ) (a : List ℕ) → R (x ∷ a) [] ≡ false
  pub each : (x y : ℕ) (a b : List ℕ) → R (x ∷ a) (y ∷ b) ≡ (nat_lt x y || (x == y && R a b))

-- what comes before a list comes before all that this one comes before
pub lexicographic_on : (R : List ℕ → List ℕ → Bool) → IsLexicographic R → (a b c : List ℕ) → R a b ≡ true → R b c ≡ true → R a c ≡ true
lexicographic_on R is [] [] c h k = absurd (true≢false (sym h ∙ is.none))
lexicographic_on R is [] (y ∷ b) [] h k = absurd (true≢false (sym k ∙ is.fewer y b))
lexicographic_on R is [] (y ∷ b) (z ∷ c) h k = is.more z c
lexicographic_on R is (x ∷ a) [] c h k = absurd (true≢false (sym h ∙ is.fewer x a))
lexicographic_on R is (x ∷ a) (y ∷ b) [] h k = absurd (true≢false (sym k ∙ is.fewer y b))
lexicographic_on R is (x ∷ a) (y ∷ b) (z ∷ c) h k =
    is.each x z a c
    ∙ by (or_cases (nat_lt x y) (x == y && R a b) (sym (is.each x y a b) ∙ h)) (or_cases (nat_lt y z) (y == z && R b c) (sym (is.each y z b c) ∙ k)) (lexicographic_on R is a b c)
  where
    by : (nat_lt x y ≡ true) ⊎ ((x == y && R a b) ≡ true) → (nat_lt y z ≡ true) ⊎ ((y == z && R b c) ≡ true) → (R a b ≡ true → R b c ≡ true → R a c ≡ true) → (nat_lt x z || (x == z && R a c)) ≡ true
    by (inl less) (inl more) ih = or_left _ _ (let p = ltb-true x y less in let q = ltb-true y z more in lt-ltb x z (omega (arith, p, q)))
    by (inl less) (inr same) ih = or_left _ _ (subst (λ (n : ℕ). nat_lt x n ≡ true) (eqb-true y z (and_parts _ _ same).0) less)
    by (inr same) (inl more) ih = or_left _ _ (subst (λ (n : ℕ). nat_lt n z ≡ true) (sym (eqb-true x y (and_parts _ _ same).0)) more)
    by (inr same) (inr also) ih = or_right (nat_lt x z) _ (and_from (x == z) (R a c)
        (subst (λ (n : ℕ). (n == z) ≡ true) (sym (eqb-true x y (and_parts _ _ same).0)) (and_parts _ _ also).0)
        (ih (and_parts _ _ same).1 (and_parts _ _ also).1))
