-- The numbers from one on, below another.
use Rattle.std.proofs.Common.{◌≡◌, sym, ◌∙◌, ap, ℕ, suc, ◌+◌, ◌-◌, ◌<◌, Bool, true, false, ◌&&◌, cond, Option, Some, List, ◌∷◌, arith}
use Rattle.std.specs.List.{find, list_all}
use Rattle.vocab.specs.Range.{below, up_from}

module _ (t : ℕ → Bool) (n : ℕ) where
  -- the numbers from k on
  abbrev rest : ℕ → List ℕ
  rest k = up_from k (n - k)

  here : (k : ℕ) → k < n → rest k ≡ k ∷ rest (k + 1)
  here k lt =
      let more : n - k ≡ suc (n - (k + 1)) = omega (arith, lt) in
      let next : suc k ≡ k + 1 = omega arith in
      ap (up_from k) more ∙ ap (λ (j : ℕ). k ∷ up_from j (n - (k + 1))) next

  start : rest 0 ≡ below n
  start = let all : n - 0 ≡ n = omega arith in ap (up_from 0) all

  -- all numbers from k on pass the test
  abbrev pub all_from : ℕ → Bool
  all_from k = list_all t (rest k)

  pub all_passed : (k : ℕ) → k < n → t k ≡ true → all_from (k + 1) ≡ all_from k
  all_passed k lt h = sym (ap (list_all t) (here k lt) ∙ ap (λ b. b && all_from (k + 1)) h)

  -- the first number from k on that does
  abbrev pub first_from : ℕ → Option ℕ
  first_from k = find t (rest k)

  pub first_found : (k : ℕ) → k < n → t k ≡ true → first_from k ≡ Some k
  first_found k lt h = ap (find t) (here k lt) ∙ ap (λ b. cond b (Some k) (first_from (k + 1))) h

  pub first_passed : (k : ℕ) → k < n → t k ≡ false → first_from (k + 1) ≡ first_from k
  first_passed k lt h = sym (ap (find t) (here k lt) ∙ ap (λ b. cond b (Some k) (first_from (k + 1))) h)

  pub first_start : first_from 0 ≡ find t (below n)
  first_start = ap (find t) start
