-- Tests that items of lists pass.
use Rattle.std.proofs.Common.{◌≡◌, refl, ap, ℕ, zero, suc, ◌<◌, ◌≤◌, Bool, true, List, [], ◌∷◌, ◌++◌, length, arith, Some}
use Rattle.std.specs.Prelude.{slice_get}
use Rattle.std.specs.List.{list_all}
use Rattle.std.proofs.lemmas.Bool.{and_parts, and_from}

pub all_both : {A : Type 0} (r s t : A → Bool) → ((a : A) → r a ≡ true → s a ≡ true → t a ≡ true) → (xs : List A) → list_all r xs ≡ true → list_all s xs ≡ true → list_all t xs ≡ true
all_both r s t give [] h k = refl
all_both r s t give (x ∷ xs) h k =
    let p = and_parts (r x) (list_all r xs) h in
    let q = and_parts (s x) (list_all s xs) k in
    and_from (t x) (list_all t xs) (give x p.0 q.0) (all_both r s t give xs p.1 q.1)

-- what each item passes, all pass
pub all_each : {A : Type 0} (t : A → Bool) (xs : List A) → ((i : ℕ) (a : A) → slice_get xs i ≡ Some a → t a ≡ true) → list_all t xs ≡ true
all_each t [] each = refl
all_each t (x ∷ xs) each = and_from (t x) (list_all t xs) (each 0 x refl) (all_each t xs (λ i a at. each (suc i) a at))

-- ---- one item more

pub front : {A : Type 0} (xs : List A) (t : A) (j : ℕ) → j < length xs → slice_get (xs ++ t ∷ []) j ≡ slice_get xs j
front [] t j h = absurd (omega arith)
front (x ∷ xs) t zero h = refl
front (x ∷ xs) t (suc j) h = front xs t j (omega arith)

pub at_end : {A : Type 0} (xs : List A) (t : A) (j : ℕ) (x : A) → length xs ≤ j → slice_get (xs ++ t ∷ []) j ≡ Some x → (j ≡ length xs) × (t ≡ x)
at_end [] t zero x h at = (refl, cc)
at_end [] t (suc j) x h at = cc
at_end (y ∷ xs) t zero x h at = absurd (omega arith)
at_end (y ∷ xs) t (suc j) x h at = let r = at_end xs t j x (omega arith) at in (ap suc r.0, r.1)
