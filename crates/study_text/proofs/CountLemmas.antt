-- Kept clauses, counted one by one.
use Rattle.std.proofs.Common.{◌≡◌, ◌∙◌, ap, refl, sym, ℕ, ◌+◌, ◌*◌, ◌^◌, ◌<◌, ◌≤◌, min, Bool, true, false, cond, List, [], ◌∷◌, ◌++◌, Some, slice_get, take, arith}
use Rattle.std.specs.List.{count_by, flat_map}
use Rattle.std.specs.Int.{from_bool}
use Rattle.std.proofs.lemmas.List.{flat_map_more, take_more}
use Rattle.std.proofs.Math.Nat.{mul-le-mul_left}
use Rattle.std.proofs.lemmas.List.Sums.{sum_by_more}
use Rattle.std.proofs.lemmas.Option.{get_or_from_slice_get, slice_get_within}
use Rattle.meaning.specs.declared.clauses.Origin.{Origin}
use Rattle.study.specs.Sentences.{told_count}
use Rattle.study_text.specs.Shares.{is_from}

-- one clause more
pub count_more : (place : ℕ) (origins : List Origin) (k kept : ℕ) (o : Origin) → slice_get origins k ≡ Some o → kept ≡ count_by (is_from place) (take k origins)
    → kept + cond (is_from place o) 1 0 ≡ count_by (is_from place) (take (k + 1) origins)
count_more place origins k kept o at so_far =
    ap (λ (n : ℕ). n + cond (is_from place o) 1 0) so_far
    ∙ ap (λ (x : Origin). count_by (is_from place) (take k origins) + cond (is_from place x) 1 0) (sym (get_or_from_slice_get origins k o o at))
    ∙ sym (sum_by_more (λ (x : Origin). cond (is_from place x) 1 0) origins k o (slice_get_within origins k o at))

-- a truth value as a number
pub byte_is : (b : Bool) → from_bool b ≡ cond b 1 0
byte_is true = refl
byte_is false = refl

-- a clause counts once at most
pub once : (b : Bool) → cond b 1 0 ≤ 1
once true = omega arith
once false = omega arith

-- a count within the limits is told as it is
pub told_whole : (r n : ℕ) → r ≡ told_count n → n ≤ 200000000 → r ≡ n
told_whole r n e few = let held : r ≡ min n 18446744073709551615 = e in omega (arith, few, held)

-- a product that a machine holds
pub product_fits : (a b : ℕ) → a < 2 ^ 32 → b ≤ 200000000 → a * b < 2 ^ 64
product_fits a b small few = let most : a * b ≤ a * 200000000 = mul-le-mul_left a few in omega (arith, small, most)

-- one text more of a list
pub taken_more : {X Y : Type 0} (f : X → List Y) (xs : List X) (k : ℕ) (x : X) (start before after : List Y) → slice_get xs k ≡ Some x
    → before ≡ start ++ flat_map f (take k xs) → after ≡ before ++ f x → after ≡ start ++ flat_map f (take (k + 1) xs)
taken_more f xs k x start before after at so_far more =
    let taken : take (k + 1) xs ≡ take k xs ++ x ∷ [] =
    take_more xs k x (slice_get_within xs k x at) ∙ ap (λ y. take k xs ++ y ∷ []) (get_or_from_slice_get xs k x x at)
    in
    more ∙ ap (λ l. l ++ f x) so_far ∙ flat_map_more f start (take k xs) x ∙ ap (λ l. start ++ flat_map f l) (sym taken)
