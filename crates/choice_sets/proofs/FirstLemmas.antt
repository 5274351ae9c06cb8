-- The first item that passes a test, of lists for one number after another.
use Rattle.std.proofs.Common.{◌≡◌, sym, ◌∙◌, ap, ℕ, suc, ◌+◌, ◌-◌, ◌<◌, ◌≤◌, Bool, true, false, List, Option, None, Some, arith, true≢false}
use Rattle.std.specs.List.{find, flat_map}
use Rattle.std.specs.Option.{is_some, option_or}
use Rattle.std.proofs.lemmas.List.Folds.{find-append}
use Rattle.vocab.specs.Range.{below, up_from}

module _ {A : Type 0} (t : A → Bool) (f : ℕ → List A) (n : ℕ) where
  -- of the lists from a number on
  abbrev pub first_from : ℕ → Option A
  first_from k = find t (flat_map f (up_from k (n - k)))

  here_or_later : (k : ℕ) → k < n → first_from k ≡ option_or (find t (f k)) (first_from (k + 1))
  here_or_later k lt =
      let more : n - k ≡ suc (n - (k + 1)) = omega (arith, lt) in
      let next : suc k ≡ k + 1 = omega arith in
      ap (λ (count : ℕ). find t (flat_map f (up_from k count))) more
      ∙ find-append t (f k) (flat_map f (up_from (suc k) (n - (k + 1))))
      ∙ ap (λ (j : ℕ). option_or (find t (f k)) (find t (flat_map f (up_from j (n - (k + 1)))))) next

  pub later : (k : ℕ) → k < n → find t (f k) ≡ None → first_from (k + 1) ≡ first_from k
  later k lt none = sym (here_or_later k lt ∙ ap (λ o. option_or o (first_from (k + 1))) none)

  pub here : (k : ℕ) (x : A) → k < n → find t (f k) ≡ Some x → Some x ≡ first_from k
  here k x lt found = sym (here_or_later k lt ∙ ap (λ o. option_or o (first_from (k + 1))) found)

  pub nowhere : (k : ℕ) → n ≤ k → None ≡ first_from k
  nowhere k le = let none : n - k ≡ 0 = omega (arith, le) in sym (ap (λ (count : ℕ). find t (flat_map f (up_from k count))) none)

  -- from 0 on these are all
  pub whole : first_from 0 ≡ find t (flat_map f (below n))
  whole = let all : n - 0 ≡ n = omega arith in ap (λ (count : ℕ). find t (flat_map f (below count))) all

  -- what is found for one number, or nothing
  pub here_found : (k : ℕ) (r : Option A) → k < n → r ≡ find t (f k) → is_some r ≡ true → r ≡ first_from k
  here_found k None lt e h = absurd (true≢false (sym h))
  here_found k (Some x) lt e h = here k x lt (sym e)

  pub later_found : (k : ℕ) (r : Option A) → k < n → r ≡ find t (f k) → is_some r ≡ false → first_from (k + 1) ≡ first_from k
  later_found k None lt e h = later k lt (sym e)
  later_found k (Some x) lt e h = absurd (true≢false h)
