-- What is in a list.
use Rattle.std.proofs.Common.{◌≡◌, refl, sym, ◌∙◌, ap, subst, ℕ, zero, suc, ◌⊎◌, inl, inr, List, [], ◌∷◌, ◌++◌, map, filter, Bool, true, false, true≢false, Some}
use Rattle.std.specs.Prelude.{if◌then◌else◌, slice_get}
use Rattle.std.specs.List.{flat_map, list_all}
use Rattle.std.proofs.lemmas.Bool.{and_from}

-- an item stands in a list
abbrev pub IsIn : {A : Type 0} → List A → A → Type 0
IsIn [] a = ⊥
IsIn (b ∷ items) a = (b ≡ a) ⊎ IsIn items a

pub in_append : {A : Type 0} (xs ys : List A) (a : A) → IsIn (xs ++ ys) a → IsIn xs a ⊎ IsIn ys a
in_append [] ys a i = inr i
in_append (x ∷ xs) ys a (inl e) = inl (inl e)
in_append (x ∷ xs) ys a (inr i) = elim (in_append xs ys a i) [ inl h ↦ inl (inr h) | inr h ↦ inr h ]

pub in_left : {A : Type 0} (xs ys : List A) (a : A) → IsIn xs a → IsIn (xs ++ ys) a
in_left [] ys a i = absurd i
in_left (x ∷ xs) ys a (inl e) = inl e
in_left (x ∷ xs) ys a (inr i) = inr (in_left xs ys a i)

pub in_right : {A : Type 0} (xs ys : List A) (a : A) → IsIn ys a → IsIn (xs ++ ys) a
in_right [] ys a i = i
in_right (x ∷ xs) ys a i = inr (in_right xs ys a i)

pub in_flat_map : {A B : Type 0} (f : A → List B) (xs : List A) (b : B) → IsIn (flat_map f xs) b → (a : A) × IsIn xs a × IsIn (f a) b
in_flat_map f [] b i = absurd i
in_flat_map f (x ∷ xs) b i = elim (in_append (f x) (flat_map f xs) b i) [
  | inl h ↦ (x, inl refl, h)
  | inr h ↦ let r = in_flat_map f xs b h in (r.0, inr r.1, r.2)
]

pub flat_map_in : {A B : Type 0} (f : A → List B) (xs : List A) (a : A) (b : B) → IsIn xs a → IsIn (f a) b → IsIn (flat_map f xs) b
flat_map_in f [] a b i j = absurd i
flat_map_in f (x ∷ xs) a b (inl e) j = in_left (f x) (flat_map f xs) b (subst (λ y. IsIn (f y) b) (sym e) j)
flat_map_in f (x ∷ xs) a b (inr i) j = in_right (f x) (flat_map f xs) b (flat_map_in f xs a b i j)

pub in_map : {A B : Type 0} (f : A → B) (xs : List A) (b : B) → IsIn (map f xs) b → (a : A) × IsIn xs a × (f a ≡ b)
in_map f [] b i = absurd i
in_map f (x ∷ xs) b (inl e) = (x, inl refl, e)
in_map f (x ∷ xs) b (inr i) = let r = in_map f xs b i in (r.0, inr r.1, r.2)

pub map_in : {A B : Type 0} (f : A → B) (xs : List A) (a : A) → IsIn xs a → IsIn (map f xs) (f a)
map_in f [] a i = absurd i
map_in f (x ∷ xs) a (inl e) = inl (ap f e)
map_in f (x ∷ xs) a (inr i) = inr (map_in f xs a i)

-- what stands at a place is in the list, and what is in it stands at one
pub in_at : {A : Type 0} (xs : List A) (j : ℕ) (a : A) → slice_get xs j ≡ Some a → IsIn xs a
in_at [] j a e = absurd cc
in_at (x ∷ xs) zero a e = inl cc
in_at (x ∷ xs) (suc j) a e = inr (in_at xs j a e)

pub at_in : {A : Type 0} (xs : List A) (a : A) → IsIn xs a → (j : ℕ) × (slice_get xs j ≡ Some a)
at_in [] a i = absurd i
at_in (x ∷ xs) a (inl e) = (0, ap Some e)
at_in (x ∷ xs) a (inr i) = let r = at_in xs a i in (suc r.0, r.1)

pub in_filter : {A : Type 0} (t : A → Bool) (xs : List A) (a : A) → IsIn (filter t xs) a → IsIn xs a × (t a ≡ true)
in_filter t [] a i = absurd i
in_filter t (x ∷ xs) a i = by (t x) refl i (in_filter t xs a)
  where
    by : (b : Bool) → t x ≡ b → IsIn (if b then x ∷ filter t xs else filter t xs) a → (IsIn (filter t xs) a → IsIn xs a × (t a ≡ true)) → ((x ≡ a) ⊎ IsIn xs a) × (t a ≡ true)
    by true e (inl same) ih = (inl same, ap t (sym same) ∙ e)
    by true e (inr j) ih = let r = ih j in (inr r.0, r.1)
    by false e j ih = let r = ih j in (inr r.0, r.1)

pub filter_in : {A : Type 0} (t : A → Bool) (xs : List A) (a : A) → IsIn xs a → t a ≡ true → IsIn (filter t xs) a
filter_in t [] a i h = absurd i
filter_in t (x ∷ xs) a i h = by (t x) refl i (λ j. filter_in t xs a j h)
  where
    by : (b : Bool) → t x ≡ b → (x ≡ a) ⊎ IsIn xs a → (IsIn xs a → IsIn (filter t xs) a) → IsIn (if b then x ∷ filter t xs else filter t xs) a
    by true e (inl same) ih = inl same
    by true e (inr j) ih = inr (ih j)
    by false e (inl same) ih = absurd (true≢false (sym (ap t same ∙ h) ∙ e))
    by false e (inr j) ih = ih j

-- what each item passes, all pass
pub all_in : {A : Type 0} (t : A → Bool) (xs : List A) → ((x : A) → IsIn xs x → t x ≡ true) → list_all t xs ≡ true
all_in t [] h = refl
all_in t (x ∷ xs) h = and_from _ _ (h x (inl refl)) (all_in t xs (λ y i. h y (inr i)))
