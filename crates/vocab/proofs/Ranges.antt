-- The numbers below a number, one after another, and the texts that a loop over them adds.
use Rattle.std.proofs.Common.{◌≡◌, ◌≢◌, ◌<◌, ◌^◌, ◌/◌, bit_and, eq-eqb, eqb-true, sym, ◌∙◌, ap, ℕ, zero, suc, ◌+◌, Bool, true, false, cond, List, [], ◌∷◌, ◌++◌, length, filter, arith, Some, slice_get, length-append, add-one, append-nil, append_assoc}
use Rattle.std.specs.List.{flat_map}
use Rattle.std.proofs.lemmas.Grind.{flat_map-append}
use Rattle.std.proofs.lemmas.List.Elements.{filter-append}
use Rattle.std.proofs.lemmas.Bool.{false_from_ne_true}
use Rattle.std.proofs.lemmas.Nat.{and_mask}
use Rattle.vocab.specs.Range.{up_from, below}
use Rattle.vocab.specs.Size.{is_digit_set}

pub up_from-more : (a n : ℕ) → up_from a (suc n) ≡ up_from a n ++ (a + n) ∷ []
up_from-more a zero = let same : a ≡ a + 0 = omega arith in ap (λ (x : ℕ). x ∷ []) same
up_from-more a (suc n) = let same : suc a + n ≡ a + suc n = omega arith in ap (λ (xs : List ℕ). a ∷ xs) (up_from-more (suc a) n ∙ ap (λ (x : ℕ). up_from (suc a) n ++ x ∷ []) same)

-- one number more
pub below_more : (n : ℕ) → below (n + 1) ≡ below n ++ n ∷ []
below_more n =
    let next : n + 1 ≡ suc n = add-one n in
    let here : 0 + n ≡ n = omega arith in
    ap below next ∙ up_from-more 0 n ∙ ap (λ x. below n ++ x ∷ []) here

-- the number at a place
at_up_from : (n a k : ℕ) → k < n → slice_get (up_from a n) k ≡ Some (a + k)
at_up_from zero a k h = absurd (omega arith)
at_up_from (suc n) a zero h = ap (λ (j : ℕ). Some j) here
  where
    here : a ≡ a + 0
    here = omega arith
at_up_from (suc n) a (suc k) h = at_up_from n (suc a) k (omega arith) ∙ ap (λ (j : ℕ). Some j) here
  where
    here : suc a + k ≡ a + suc k
    here = omega arith

pub at_below : (n k : ℕ) → k < n → slice_get (below n) k ≡ Some k
at_below n k h = at_up_from n 0 k h ∙ ap (λ (j : ℕ). Some j) here
  where
    here : 0 + k ≡ k
    here = omega arith

pub next_below : (f : ℕ → List ℕ) (n : ℕ) → flat_map f (below (n + 1)) ≡ flat_map f (below n) ++ f n
next_below f n =
    ap (λ (k : ℕ). flat_map f (below k)) one
    ∙ ap (flat_map f) (up_from-more 0 n ∙ ap (λ (k : ℕ). below n ++ k ∷ []) none)
    ∙ flat_map-append f (below n) (n ∷ [])
    ∙ ap (λ (l : List ℕ). flat_map f (below n) ++ l) (append-nil (f n))
  where
    one : n + 1 ≡ suc n
    one = omega arith

    none : 0 + n ≡ n
    none = omega arith

-- a loop adds one text more
pub goes_on : (f : ℕ → List ℕ) (start before after : List ℕ) (n : ℕ) → before ≡ start ++ flat_map f (below n) → after ≡ before ++ f n → after ≡ start ++ flat_map f (below (n + 1))
goes_on f start before after n so_far more =
    more ∙ ap (λ (l : List ℕ). l ++ f n) so_far ∙ append_assoc start (flat_map f (below n)) (f n) ∙ ap (λ (l : List ℕ). start ++ l) (sym (next_below f n))

pub kept-more : (t : ℕ → Bool) (n : ℕ) → filter t (below (n + 1)) ≡ filter t (below n) ++ cond (t n) (n ∷ []) []
kept-more t n =
    let next : n + 1 ≡ suc n = omega arith in
    let own : 0 + n ≡ n = omega arith in
    ap (λ (k : ℕ). filter t (below k)) next ∙ ap (filter t) (up_from-more 0 n) ∙ filter-append t (below n) ((0 + n) ∷ []) ∙ ap (λ (k : ℕ). filter t (below n) ++ cond (t k) (k ∷ []) []) own

-- how many numbers pass a test, after one that does, and after one that does not
pub counted-passed : (t : ℕ → Bool) (n : ℕ) → t n ≡ true → length (filter t (below (n + 1))) ≡ length (filter t (below n)) + 1
counted-passed t n h = ap length (kept-more t n ∙ ap (λ (b : Bool). filter t (below n) ++ cond b (n ∷ []) []) h) ∙ length-append (filter t (below n)) (n ∷ [])

pub counted-failed : (t : ℕ → Bool) (n : ℕ) → t n ≡ false → length (filter t (below (n + 1))) ≡ length (filter t (below n))
counted-failed t n h =
    let none : length (filter t (below n)) + 0 ≡ length (filter t (below n)) = omega arith in
    ap length (kept-more t n ∙ ap (λ (b : Bool). filter t (below n) ++ cond b (n ∷ []) []) h) ∙ length-append (filter t (below n)) [] ∙ none

-- a digit as the program takes it: the number shifted, and its lowest digit
pub set-from : (n j : ℕ) → bit_and (n / 2 ^ j) 1 ≡ 1 → is_digit_set n j ≡ true
set-from n j h = eq-eqb _ 1 (sym (and_mask (n / 2 ^ j) 1) ∙ h)

pub unset-from : (n j : ℕ) → bit_and (n / 2 ^ j) 1 ≢ 1 → is_digit_set n j ≡ false
unset-from n j h = false_from_ne_true _ (λ e. h (and_mask (n / 2 ^ j) 1 ∙ eqb-true _ 1 e))
