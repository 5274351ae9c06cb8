-- Lists of which all items pass a test, or one does.
use Rattle.std.proofs.Common.{◌≡◌, refl, subst, ℕ, zero, suc, ◌<◌, Bool, true, false, cond, List, [], ◌∷◌, ◌++◌, length, get_or, filter, arith, Some, ◌≤◌, sym, ◌∙◌, inl, inr}
use Rattle.std.specs.Prelude.{slice_get}
use Rattle.std.specs.List.{list_all, list_any}
use Rattle.std.proofs.lemmas.Bool.{and_parts, and_from, or_cases, or_left, or_right}
use Rattle.std.proofs.lemmas.List.Folds.{list_all-append, list_any-append}

-- a test that each item passes is passed at each place
pub all_read : {X : Type 0} (t : X → Bool) (xs : List X) (k : ℕ) (d : X) → k < length xs → list_all t xs ≡ true → t (get_or xs k d) ≡ true
all_read t [] k d l h = absurd (omega arith)
all_read t (x ∷ xs) zero d l h = (and_parts (t x) (list_all t xs) h).0
all_read t (x ∷ xs) (suc k) d l h = all_read t xs k d (omega (arith, l)) (and_parts (t x) (list_all t xs) h).1

-- and by the item that stands at a place
pub all_get : {A : Type 0} (t : A → Bool) (xs : List A) (i : ℕ) (a : A) → list_all t xs ≡ true → slice_get xs i ≡ Some a → t a ≡ true
all_get t [] i a h at = cc
all_get t (x ∷ xs) zero a h at = let same : x ≡ a = cc in subst (λ y. t y ≡ true) same (and_parts (t x) (list_all t xs) h).0
all_get t (x ∷ xs) (suc i) a h at = all_get t xs i a (and_parts (t x) (list_all t xs) h).1 at

-- one item more
pub all_snoc : {A : Type 0} (t : A → Bool) (xs : List A) (x : A) → list_all t xs ≡ true → t x ≡ true → list_all t (xs ++ x ∷ []) ≡ true
all_snoc t [] x h k = and_from (t x) true k refl
all_snoc t (y ∷ xs) x h k = let p = and_parts (t y) (list_all t xs) h in and_from (t y) (list_all t (xs ++ x ∷ [])) p.0 (all_snoc t xs x p.1 k)

-- what all items pass, those pass that are kept
pub all_kept : {X : Type 0} (p keep : X → Bool) (xs : List X) → list_all p xs ≡ true → list_all p (filter keep xs) ≡ true
all_kept p keep [] h = refl
all_kept p keep (x ∷ xs) h = let e = and_parts (p x) (list_all p xs) h in cases (keep x) e.0 (all_kept p keep xs e.1)
  where
    cases : (b : Bool) → p x ≡ true → list_all p (filter keep xs) ≡ true → list_all p (cond b (x ∷ filter keep xs) (filter keep xs)) ≡ true
    cases true here ih = and_from _ _ here ih
    cases false here ih = ih

-- and each that is kept passes
pub kept_pass : {X : Type 0} (keep : X → Bool) (xs : List X) → list_all keep (filter keep xs) ≡ true
kept_pass keep [] = refl
kept_pass keep (x ∷ xs) = cases (keep x) refl (kept_pass keep xs)
  where
    cases : (b : Bool) → keep x ≡ b → list_all keep (filter keep xs) ≡ true → list_all keep (cond b (x ∷ filter keep xs) (filter keep xs)) ≡ true
    cases true here ih = and_from _ _ here ih
    cases false here ih = ih

-- what passes one test passes a weaker one
pub all_weaker : {A : Type 0} (s t : A → Bool) → ((a : A) → s a ≡ true → t a ≡ true) → (xs : List A) → list_all s xs ≡ true → list_all t xs ≡ true
all_weaker s t give [] h = refl
all_weaker s t give (x ∷ xs) h = let p = and_parts (s x) (list_all s xs) h in and_from (t x) (list_all t xs) (give x p.0) (all_weaker s t give xs p.1)

-- what is kept is no longer
pub kept_few : {X : Type 0} (keep : X → Bool) (xs : List X) → length (filter keep xs) ≤ length xs
kept_few keep [] = omega arith
kept_few keep (x ∷ xs) = cases (keep x) (kept_few keep xs)
  where
    cases : (b : Bool) → length (filter keep xs) ≤ length xs → length (cond b (x ∷ filter keep xs) (filter keep xs)) ≤ suc (length xs)
    cases true h = omega (arith, h)
    cases false h = omega (arith, h)

pub all_left : {A : Type 0} (t : A → Bool) (xs ys : List A) → list_all t (xs ++ ys) ≡ true → list_all t xs ≡ true
all_left t xs ys h = (and_parts (list_all t xs) (list_all t ys) (sym (list_all-append t xs ys) ∙ h)).0

-- ---- lists of which an item passes

pub any_weaker : {A : Type 0} (s t : A → Bool) → ((a : A) → s a ≡ true → t a ≡ true) → (xs : List A) → list_any s xs ≡ true → list_any t xs ≡ true
any_weaker s t weaker [] h = h
any_weaker s t weaker (x ∷ xs) h = elim (or_cases (s x) (list_any s xs) h) [ inl e ↦ or_left _ _ (weaker x e) | inr e ↦ or_right _ _ (any_weaker s t weaker xs e) ]

pub any_left : {A : Type 0} (t : A → Bool) (xs ys : List A) → list_any t xs ≡ true → list_any t (xs ++ ys) ≡ true
any_left t xs ys h = list_any-append t xs ys ∙ or_left (list_any t xs) (list_any t ys) h

pub any_right : {A : Type 0} (t : A → Bool) (xs ys : List A) → list_any t ys ≡ true → list_any t (xs ++ ys) ≡ true
any_right t xs ys h = list_any-append t xs ys ∙ or_right (list_any t xs) (list_any t ys) h
