-- What stands at a place of a list.
use Rattle.std.proofs.Common.{◌≡◌, refl, ap, ℕ, zero, suc, ◌<◌, List, [], ◌∷◌, length, drop, arith, Some, ◌+◌, take, ◌++◌, subst}
use Rattle.std.specs.Prelude.{slice_get, slice_index}
use Rattle.std.specs.List.{AllByRecursion}
use Rattle.std.proofs.lemmas.Option.{same_Some}

-- there is an item at each place
pub there_is : {A : Type 0} (xs : List A) (n : ℕ) → n < length xs → (a : A) × (slice_get xs n ≡ Some a)
there_is [] n lt = absurd (omega (arith, lt))
there_is (x ∷ xs) zero lt = (x, refl)
there_is (x ∷ xs) (suc n) lt = there_is xs n (omega (arith, lt))

-- what stands first behind some items stands at the place after them
pub drop_first : {A : Type 0} (xs : List A) (k : ℕ) (t : A) (rest : List A) → drop k xs ≡ t ∷ rest → slice_get xs k ≡ Some t
drop_first {A} [] zero t rest h = absurd (let l : 0 ≡ suc (length rest) = ap length h in omega (arith, l))
drop_first {A} [] (suc k) t rest h = absurd (let l : 0 ≡ suc (length rest) = ap length h in omega (arith, l))
drop_first {A} (x ∷ xs) zero t rest h = ap (λ (l : List A). slice_get l 0) h
drop_first {A} (x ∷ xs) (suc k) t rest h = drop_first xs k t rest h

pub get_index : (xs : List ℕ) (i x : ℕ) → slice_get xs i ≡ Some x → slice_index xs i ≡ x
get_index [] i x h = cc
get_index (y ∷ xs) zero x h = cc
get_index (y ∷ xs) (suc i) x h = get_index xs i x h

-- what stands in a longer list
pub get_front : {A : Type 0} (ys zs : List A) (n : ℕ) (x : A) → slice_get ys n ≡ Some x → slice_get (ys ++ zs) n ≡ Some x
get_front [] zs n x h = absurd cc
get_front (y ∷ ys) zs zero x h = h
get_front (y ∷ ys) zs (suc n) x h = get_front ys zs n x h

pub get_last : {A : Type 0} (ys : List A) (x : A) (n : ℕ) → n ≡ length ys → slice_get (ys ++ x ∷ []) n ≡ Some x
get_last [] x n h = ap (slice_get (x ∷ [])) h
get_last (y ∷ ys) x zero h = absurd (omega (arith, h))
get_last (y ∷ ys) x (suc n) h = get_last ys x n (omega (arith, h))

-- what holds of each item holds of the one at a place
pub each_get : {X : Type 0} (P : X → Type 0) (xs : List X) (i : ℕ) (x : X) → AllByRecursion P xs → slice_get xs i ≡ Some x → P x
each_get P [] i x h e = cc
each_get P (y ∷ xs) zero x h e = subst P (same_Some y x e) h.0
each_get P (y ∷ xs) (suc i) x h e = each_get P xs i x h.1 e

-- what stands first in a list, and after it
pub head_same : {A : Type 0} (x y : A) (xs ys : List A) → x ∷ xs ≡ y ∷ ys → x ≡ y
head_same x y xs ys e = cc

pub tail_same : {A : Type 0} (x y : A) (xs ys : List A) → x ∷ xs ≡ y ∷ ys → xs ≡ ys
tail_same x y xs ys e = cc

pub cons_same : {A : Type 0} (x y : A) (xs ys : List A) → x ∷ xs ≡ y ∷ ys → (x ≡ y) × (xs ≡ ys)
cons_same x y xs ys e = (cc, cc)

-- what is left of a list, and what is taken of it, one item on
pub drop_cons : (b k : ℕ) (text : List ℕ) → drop (1 + k) (b ∷ text) ≡ drop k text
drop_cons b k text = let e : 1 + k ≡ suc k = omega arith in ap (λ n. drop n (b ∷ text)) e

pub take_cons : (b k : ℕ) (text : List ℕ) → take (1 + k) (b ∷ text) ≡ b ∷ take k text
take_cons b k text = let e : 1 + k ≡ suc k = omega arith in ap (λ n. take n (b ∷ text)) e
