-- Tests, and tests of each item of a list.
use Rattle.std.proofs.Common.{◌&&◌, ◌+◌, ◌++◌, ◌<◌, Bool, List, ap, ap₂, arith, false, map, not, refl, suc, true, zero, ℕ, ◌∙◌, ◌∷◌, ◌≡◌, ◌||◌, [], sym, true≢false}
use Rattle.std.proofs.lemmas.Bool.{and_from, and_parts, or_parts}
use Rattle.std.proofs.lemmas.List.Folds.{list_all-append}
use Rattle.std.specs.List.{AllByRecursion, flat_map, list_all, list_any}
use Rattle.meaning.specs.Space.{up_from}

pub not-or : (a b : Bool) → (not a && not b) ≡ not (a || b)
not-or true b = refl
not-or false b = refl

-- four tests that pass together
abbrev pub four_parts : (a b c d : Bool) → (a && b && c && d) ≡ true → (a ≡ true) × (b ≡ true) × (c ≡ true) × (d ≡ true)
four_parts a b c d h =
    let p = and_parts (a && b && c) d h in
    let q = and_parts (a && b) c p.0 in
    let r = and_parts a b q.0 in (r.0, r.1, q.1, p.1)

pub or_swap : (a b c : Bool) → (a || (b || c)) ≡ (b || (a || c))
or_swap true true c = refl
or_swap true false c = refl
or_swap false b c = refl

pub rest_false : (a b : Bool) → a ≡ true → (a && b) ≡ false → b ≡ false
rest_false true b e h = h
rest_false false b e h = absurd (true≢false (sym e))

-- ---- tests of each item of a list

pub list_all-ext : {X : Type 0} (f g : X → Bool) (xs : List X) → ((x : X) → f x ≡ g x) → list_all f xs ≡ list_all g xs
list_all-ext f g [] h = refl
list_all-ext f g (x ∷ xs) h = ap₂ (λ a b. a && b) (h x) (list_all-ext f g xs h)

pub list_any-ext : {X : Type 0} (f g : X → Bool) (xs : List X) → ((x : X) → f x ≡ g x) → list_any f xs ≡ list_any g xs
list_any-ext f g [] h = refl
list_any-ext f g (x ∷ xs) h = ap₂ (λ a b. a || b) (h x) (list_any-ext f g xs h)

pub list_any-map : {X Y : Type 0} (t : Y → Bool) (f : X → Y) (xs : List X) → list_any t (map f xs) ≡ list_any (λ x. t (f x)) xs
list_any-map t f [] = refl
list_any-map t f (x ∷ xs) = ap (λ b. t (f x) || b) (list_any-map t f xs)

pub list_all-flat_map : {X Y : Type 0} (t : Y → Bool) (f : X → List Y) (xs : List X) → list_all t (flat_map f xs) ≡ list_all (λ x. list_all t (f x)) xs
list_all-flat_map t f [] = refl
list_all-flat_map t f (x ∷ xs) = list_all-append t (f x) (flat_map f xs) ∙ ap (λ b. list_all t (f x) && b) (list_all-flat_map t f xs)

pub list_all-both : {X : Type 0} (t : X → Bool) (xs ys : List X) → list_all t xs ≡ true → list_all t ys ≡ true → list_all t (xs ++ ys) ≡ true
list_all-both t [] ys h k = k
list_all-both t (x ∷ xs) ys h k = let e = and_parts (t x) (list_all t xs) h in and_from _ _ e.0 (list_all-both t xs ys e.1 k)

-- a test that no item passes is failed by each
pub none_passes : {X : Type 0} (t : X → Bool) (xs : List X) → list_any t xs ≡ false → list_all (λ x. not (t x)) xs ≡ true
none_passes t [] h = refl
none_passes t (x ∷ xs) h = let e = or_parts (t x) (list_any t xs) h in and_from _ _ (ap not e.0) (none_passes t xs e.1)

-- ---- tests of each number from a on

-- tests that agree at each number agree on all
pub all-agree : (f g : ℕ → Bool) (n a : ℕ) → ((k : ℕ) → k < a + n → f k ≡ g k) → list_all f (up_from a n) ≡ list_all g (up_from a n)
all-agree f g zero a h = refl
all-agree f g (suc n) a h = ap₂ (λ x y. x && y) (h a (omega arith)) (all-agree f g n (suc a) (λ k lt. h k (omega arith)))

pub any-agree : (t u : ℕ → Bool) (n a : ℕ) → ((x : ℕ) → x < a + n → t x ≡ u x) → list_any t (up_from a n) ≡ list_any u (up_from a n)
any-agree t u zero a h = refl
any-agree t u (suc n) a h = ap₂ (λ b c. b || c) (h a (omega arith)) (any-agree t u n (suc a) (λ x lt. h x (omega arith)))

-- a fact at each number
pub all_numbers : (P : ℕ → Type 0) (n a : ℕ) → ((p : ℕ) → p < a + n → P p) → AllByRecursion P (up_from a n)
all_numbers P zero a h = tt
all_numbers P (suc n) a h = (h a (omega arith), all_numbers P n (suc a) (λ p lt. h p (omega arith)))
