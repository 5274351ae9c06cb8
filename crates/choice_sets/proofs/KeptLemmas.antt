-- Tests of the elements of a set, one alternative after another.
use Rattle.std.proofs.Common.{◌≡◌, refl, sym, ◌∙◌, ap, ℕ, ◌+◌, ◌<◌, Bool, true, false, cond, ◌&&◌, [], ◌∷◌, ◌++◌, filter, arith, zero, suc, ◌≤◌, inl, inr, eq-or-lt_of_le}
use Rattle.std.specs.List.{list_all}
use Rattle.std.proofs.lemmas.Bool.{and_from, and_parts, both_ways, false_from_ne_true}
use Rattle.std.proofs.lemmas.List.Folds.{list_all-append}
use Rattle.vocab.specs.Range.{below, up_from}
use Rattle.vocab.proofs.Ranges.{kept-more}

module _ (t s : ℕ → Bool) where
  -- of those that are kept, each passes the test
  abbrev pub all_pass : ℕ → Bool
  all_pass n = list_all t (filter s (below n))

  next_is : (n : ℕ) (b : Bool) → s n ≡ b → all_pass (n + 1) ≡ (all_pass n && list_all t (cond b (n ∷ []) []))
  next_is n b e =
      ap (list_all t) (kept-more s n ∙ ap (λ c. filter s (below n) ++ cond c (n ∷ []) []) e) ∙ list_all-append t (filter s (below n)) (cond b (n ∷ []) [])

  pub passed : (n : ℕ) → all_pass n ≡ true → s n ≡ true → t n ≡ true → all_pass (n + 1) ≡ true
  passed n before kept here = next_is n true kept ∙ and_from _ _ before (and_from _ _ here refl)

  pub left_out : (n : ℕ) → all_pass n ≡ true → s n ≡ false → all_pass (n + 1) ≡ true
  left_out n before out = next_is n false out ∙ and_from _ _ before refl

  -- what passes up to a number passes at each kept one below it
  at_from : (n a x : ℕ) → list_all t (filter s (up_from a n)) ≡ true → a ≤ x → x < a + n → s x ≡ true → t x ≡ true
  at_from zero a x h low high kept = absurd (omega (arith, low, high))
  at_from (suc n) a x h low high kept = elim (eq-or-lt_of_le low) [
    | inl e ↦ (and_parts (t x) (list_all t (filter s (up_from (suc a) n))) (sym (ap (λ b. list_all t (cond b (a ∷ filter s (up_from (suc a) n)) (filter s (up_from (suc a) n)))) (ap s e ∙ kept) ∙ ap (λ (y : ℕ). t y && list_all t (filter s (up_from (suc a) n))) e) ∙ h)).0
    | inr lt ↦ at_from n (suc a) x (rest (s a) h) (omega (arith, lt)) (omega (arith, high)) kept
  ]
    where
      rest : (b : Bool) → list_all t (cond b (a ∷ filter s (up_from (suc a) n)) (filter s (up_from (suc a) n))) ≡ true → list_all t (filter s (up_from (suc a) n)) ≡ true
      rest true g = (and_parts (t a) _ g).1
      rest false g = g

  kept_from : (n a : ℕ) → ((x : ℕ) → a ≤ x → x < a + n → s x ≡ true → t x ≡ true) → list_all t (filter s (up_from a n)) ≡ true
  kept_from zero a h = refl
  kept_from (suc n) a h = by_test (s a) refl (kept_from n (suc a) (λ x low high kept. h x (omega (arith, low)) (omega (arith, high)) kept))
    where
      by_test : (b : Bool) → s a ≡ b → list_all t (filter s (up_from (suc a) n)) ≡ true → list_all t (cond b (a ∷ filter s (up_from (suc a) n)) (filter s (up_from (suc a) n))) ≡ true
      by_test true e rest = and_from _ _ (h a (omega arith) (omega arith) e) rest
      by_test false e rest = rest

  pub fails : (n x : ℕ) → x < n → s x ≡ true → t x ≡ false → all_pass n ≡ false
  fails n x lt kept bad = false_from_ne_true _ (λ h. both_ways _ bad (at_from n 0 x h (omega arith) (omega (arith, lt)) kept))

  -- what holds at each kept one below a number, and the other way
  pub all_kept : (n : ℕ) → ((x : ℕ) → x < n → s x ≡ true → t x ≡ true) → list_all t (filter s (below n)) ≡ true
  all_kept n h = kept_from n 0 (λ x low high kept. h x (omega (arith, high)) kept)

  pub at_kept : (n x : ℕ) → list_all t (filter s (below n)) ≡ true → x < n → s x ≡ true → t x ≡ true
  at_kept n x h lt kept = at_from n 0 x h (omega arith) (omega (arith, lt)) kept
