-- What has been merged of a list that does not fall.
use mathlib.Core.Bool.{or-false}
use Rattle.std.proofs.Common.{◌≡◌, ◌<◌, ◌≤◌, ◌+◌, ℕ, Bool, true, false, ◌||◌, nat_eq, List, [], ◌∷◌, ◌++◌, refl, sym, ap, ap₂, ◌∙◌, subst, arith, take, length, slice_index}
use Rattle.std.specs.List.Sorted.{IsNonDecreasing}
use Rattle.std.proofs.lemmas.Bool.{or_right}
use Rattle.std.proofs.lemmas.List.{take_more}
use Rattle.std.proofs.lemmas.List.Folds.{list_any-append}
use Rattle.grounding.specs.Rising.{RisesFrom, includes}
use Rattle.grounding.proofs.RisingLaws.{first_there}

has-push : (xs : List ℕ) (n k : ℕ) → includes (xs ++ n ∷ []) k ≡ (includes xs k || nat_eq k n)
has-push xs n k = list_any-append (nat_eq k) xs (n ∷ []) ∙ ap (λ b. includes xs k || b) (or-false (nat_eq k n))

above-push : (m n : ℕ) (xs : List ℕ) → RisesFrom m xs → m < n → ((k : ℕ) → includes xs k ≡ true → k < n) → RisesFrom m (xs ++ n ∷ [])
above-push m n [] h e under = (e, record {})
above-push m n (x ∷ xs) h e under = (h.0, above-push x n xs h.1 (under x (first_there x xs)) (λ k is. under k (or_right (nat_eq k x) (includes xs k) is)))

pub record IsMerged (numbers out : List ℕ) (last i : ℕ) : Type 0 where
  pub above : RisesFrom 0 out
  pub under : (k : ℕ) → includes out k ≡ true → k ≤ last
  pub there : 0 < last → includes out last ≡ true
  pub low : (j : ℕ) → i ≤ j → j < length numbers → last ≤ slice_index numbers j
  pub same : (k : ℕ) → includes out k ≡ includes (take i numbers) k

module _ (numbers out : List ℕ) (last i : ℕ) (rising : IsNonDecreasing numbers) (within : i < length numbers) (is : IsMerged numbers out last i) where
  one_more : (k : ℕ) → includes (take (i + 1) numbers) k ≡ (includes (take i numbers) k || nat_eq k (slice_index numbers i))
  one_more k = ap (λ xs. includes xs k) (take_more numbers i 0 within) ∙ has-push (take i numbers) (slice_index numbers i) k

  pub merged_new : (n : ℕ) → n ≡ slice_index numbers i → (n ≡ last → ⊥) → IsMerged numbers (out ++ n ∷ []) n (i + 1)
  merged_new n e new =
      let more : last < n = (let l : last ≤ slice_index numbers i = is.low i (omega arith) within in omega (arith, l, new, e)) in
      record {
        above = above-push 0 n out is.above (omega (arith, more)) (λ k h. omega (arith, is.under k h, more));
        under = λ k h. by k (includes out k) refl (sym (has-push out n k) ∙ h);
        there = λ _. has-push out n n ∙ or_right (includes out n) (nat_eq n n) (let t : nat_eq n n ≡ true = grind arith in t);
        low = λ j from to. subst (λ m. m ≤ slice_index numbers j) (sym e) (rising i j 0 (omega (arith, from)) to);
        same = λ k. has-push out n k ∙ ap₂ (λ a b. a || b) (is.same k) (ap (nat_eq k) e) ∙ sym (one_more k);
      }
    where
      by : (k : ℕ) (b : Bool) → includes out k ≡ b → (b || nat_eq k n) ≡ true → k ≤ n
      by k true e' h = (let l : last ≤ slice_index numbers i = is.low i (omega arith) within in omega (arith, is.under k e', l, e))
      by k false e' h = (let s : k ≡ n = grind (arith, h) in omega (arith, s))

  pub merged_old : (n : ℕ) → n ≡ slice_index numbers i → n ≡ last → 0 < n → IsMerged numbers out last (i + 1)
  merged_old n e old some =
      record {
        above = is.above;
        under = is.under;
        there = is.there;
        low = λ j from to. is.low j (omega (arith, from)) to;
        same = λ k. by k (nat_eq k n) refl ∙ ap₂ (λ a b. a || b) (is.same k) (ap (nat_eq k) e) ∙ sym (one_more k);
      }
    where
      by : (k : ℕ) (b : Bool) → nat_eq k n ≡ b → includes out k ≡ (includes out k || nat_eq k n)
      by k true h = (let s : k ≡ last = (let t : k ≡ n = grind (arith, h) in omega (arith, t, old)) in
          let t : includes out k ≡ true = ap (includes out) s ∙ is.there (omega (arith, some, old)) in
          t ∙ sym (ap (λ b. b || nat_eq k n) t))
      by k false h = sym (ap (λ b. includes out k || b) h ∙ or-false (includes out k))
