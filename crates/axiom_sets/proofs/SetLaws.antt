-- Which sets lie within which, and lists of sets that pass a test.
use mathlib.Core.Bool.{and_comm}
use Rattle.std.proofs.Common.{◌≡◌, refl, sym, ◌∙◌, ap, subst, ℕ, Bool, true, false, not, ◌&&◌, ◌||◌, cond, List, [], ◌∷◌, ◌++◌, filter, inl, inr, ◌⊎◌, true≢false}
use Rattle.std.specs.List.{list_all, list_any, AllByRecursion}
use Rattle.std.proofs.lemmas.Bool.{and_parts, and_from, or_cases, or_left, or_right}
use Rattle.std.proofs.lemmas.List.Folds.{list_all-append, list_any-append}
use Rattle.lists.proofs.TestLaws.{all_kept, any_weaker}
use Rattle.search_logs.specs.Spent.{has_place}
use Rattle.search_logs.proofs.PlaceLaws.{each_member, member_passes}
use Rattle.axiom_sets.specs.Sets.{is_within, has_part, has_whole}
use Rattle.axiom_sets.specs.Maps.{are_apart, IsInserted}

-- ---- sets within sets

-- each set lies within itself
pub within_self : (set : List ℕ) → is_within set set ≡ true
within_self set = each_member (has_place set) set (λ c e. e)

-- what lies within a set lies within each set within which that lies
pub within_on : (a b c : List ℕ) → is_within a b ≡ true → is_within b c ≡ true → is_within a c ≡ true
within_on a b c h k = each_member (has_place c) a (λ x e. member_passes (has_place c) b x k (member_passes (has_place b) a x h e))

-- a member of a set that lies within another is a member of that
pub within_member : (a b : List ℕ) (k : ℕ) → is_within a b ≡ true → has_place a k ≡ true → has_place b k ≡ true
within_member a b k h m = member_passes (has_place b) a k h m

-- ---- lists and tests

module _ {X : Type 0} where
  pub all_both : (p q : X → Bool) (xs : List X) → list_all p xs ≡ true → list_all q xs ≡ true → list_all (λ x. p x && q x) xs ≡ true
  all_both p q [] h k = refl
  all_both p q (x ∷ xs) h k =
      let e = and_parts (p x) (list_all p xs) h in
      let f = and_parts (q x) (list_all q xs) k in
      and_from _ _ (and_from _ _ e.0 f.0) (all_both p q xs e.1 f.1)

  -- ---- of the items that are kept

  pub any_kept : (p keep : X → Bool) (xs : List X) → list_any p (filter keep xs) ≡ true → list_any p xs ≡ true
  any_kept p keep [] h = h
  any_kept p keep (x ∷ xs) h = cases (keep x) h (any_kept p keep xs)
    where
      cases : (b : Bool) → list_any p (cond b (x ∷ filter keep xs) (filter keep xs)) ≡ true → (list_any p (filter keep xs) ≡ true → list_any p xs ≡ true) → list_any p (x ∷ xs) ≡ true
      cases true g ih = elim (or_cases (p x) (list_any p (filter keep xs)) g) [ inl e ↦ or_left _ _ e | inr e ↦ or_right _ _ (ih e) ]
      cases false g ih = or_right _ _ (ih g)

  -- an item that passes is kept, or it is not
  pub any_split : (p keep : X → Bool) (xs : List X) → list_any p xs ≡ true → (list_any p (filter keep xs) ≡ true) ⊎ ((x : X) × (p x ≡ true) × (keep x ≡ false))
  any_split p keep [] h = absurd (true≢false (sym h))
  any_split p keep (x ∷ xs) h = cases (keep x) refl (or_cases (p x) (list_any p xs) h) (any_split p keep xs)
    where
      Splits : List X → Type 0
      Splits ys = (list_any p ys ≡ true) ⊎ ((y : X) × (p y ≡ true) × (keep y ≡ false))

      cases : (b : Bool) → keep x ≡ b → (p x ≡ true) ⊎ (list_any p xs ≡ true) → (list_any p xs ≡ true → Splits (filter keep xs)) → Splits (cond b (x ∷ filter keep xs) (filter keep xs))
      cases true k (inl e) ih = inl (or_left _ _ e)
      cases true k (inr e) ih = elim (ih e) [ inl f ↦ inl (or_right _ _ f) | inr f ↦ inr f ]
      cases false k (inl e) ih = inr (x, e, k)
      cases false k (inr e) ih = ih e

  pub each_kept : (P : X → Type 0) (keep : X → Bool) (xs : List X) → AllByRecursion P xs → AllByRecursion P (filter keep xs)
  each_kept P keep [] h = tt
  each_kept P keep (x ∷ xs) h = cases (keep x) (each_kept P keep xs h.1)
    where
      cases : (b : Bool) → AllByRecursion P (filter keep xs) → AllByRecursion P (cond b (x ∷ filter keep xs) (filter keep xs))
      cases true ih = (h.0, ih)
      cases false ih = ih

  each_inserted : (P : X → Type 0) (before after : List X) (x : X) → AllByRecursion P (before ++ after) → P x → AllByRecursion P (before ++ x ∷ after)
  each_inserted P [] after x h here = (here, h)
  each_inserted P (y ∷ before) after x h here = (h.0, each_inserted P before after x h.1 here)

-- ---- sets within those of a list

pub part_on : (sets : List (List ℕ)) (a b : List ℕ) → is_within a b ≡ true → has_part sets a ≡ true → has_part sets b ≡ true
part_on sets a b h part = any_weaker (λ s. is_within s a) (λ s. is_within s b) (λ s e. within_on s a b e h) sets part

pub whole_on : (sets : List (List ℕ)) (a b : List ℕ) → is_within a b ≡ true → has_whole sets b ≡ true → has_whole sets a ≡ true
whole_on sets a b h whole = any_weaker (is_within b) (is_within a) (λ s e. within_on a b s h e) sets whole

-- ---- a set among others

-- two sets are apart: neither lies within the other
abbrev pub apart : List ℕ → List ℕ → Bool
apart set s = not (is_within s set) && not (is_within set s)

pub apart_kept : (keep : List ℕ → Bool) (sets : List (List ℕ)) → are_apart sets ≡ true → are_apart (filter keep sets) ≡ true
apart_kept keep [] h = refl
apart_kept keep (x ∷ sets) h = let e = and_parts (list_all (apart x) sets) (are_apart sets) h in cases (keep x) (all_kept (apart x) keep sets e.0) (apart_kept keep sets e.1)
  where
    cases : (b : Bool) → list_all (apart x) (filter keep sets) ≡ true → are_apart (filter keep sets) ≡ true → are_apart (cond b (x ∷ filter keep sets) (filter keep sets)) ≡ true
    cases true here ih = and_from _ _ here ih
    cases false here ih = ih

apart_inserted : (set : List ℕ) (before after : List (List ℕ)) → are_apart (before ++ after) ≡ true → list_all (apart set) (before ++ after) ≡ true → are_apart (before ++ set ∷ after) ≡ true
apart_inserted set [] after h all = and_from _ _ all h
apart_inserted set (b ∷ before) after h all =
    let e = and_parts (list_all (apart b) (before ++ after)) (are_apart (before ++ after)) h in
    let f = and_parts (apart set b) (list_all (apart set) (before ++ after)) all in
    let parts = and_parts (list_all (apart b) before) (list_all (apart b) after) (sym (list_all-append (apart b) before after) ∙ e.0) in
    and_from _ _
    (list_all-append (apart b) before (set ∷ after) ∙ and_from _ _ parts.0 (and_from _ _ (and_comm (not (is_within set b)) (not (is_within b set)) ∙ f.0) parts.1))
    (apart_inserted set before after e.1 f.1)

among : (a b c : Bool) → (a || (c || b)) ≡ ((a || b) || c)
among true b c = refl
among false true true = refl
among false true false = refl
among false false true = refl
among false false false = refl

module _ (old new : List (List ℕ)) (set : List ℕ) (put : IsInserted old new set) where
  -- what holds of each old set and of the new one holds of all
  pub each_put : (P : List ℕ → Type 0) → AllByRecursion P old → P set → AllByRecursion P new
  each_put P h here = subst (AllByRecursion P) (sym put.new_is) (each_inserted P put.before put.after set (subst (AllByRecursion P) put.old_is h) here)

  pub all_put : (p : List ℕ → Bool) → list_all p old ≡ true → p set ≡ true → list_all p new ≡ true
  all_put p h here =
      let e = and_parts (list_all p put.before) (list_all p put.after) (sym (list_all-append p put.before put.after) ∙ sym (ap (list_all p) put.old_is) ∙ h) in
      ap (list_all p) put.new_is ∙ list_all-append p put.before (set ∷ put.after) ∙ and_from _ _ e.0 (and_from _ _ here e.1)

  -- some set passes a test: an old one, or the new one
  pub any_put : (p : List ℕ → Bool) → list_any p new ≡ (list_any p old || p set)
  any_put p =
      ap (list_any p) put.new_is ∙ list_any-append p put.before (set ∷ put.after) ∙ among (list_any p put.before) (list_any p put.after) (p set)
      ∙ ap (λ b. b || p set) (sym (list_any-append p put.before put.after) ∙ sym (ap (list_any p) put.old_is))

  pub apart_put : are_apart old ≡ true → list_all (apart set) old ≡ true → are_apart new ≡ true
  apart_put h all = ap are_apart put.new_is ∙ apart_inserted set put.before put.after (ap are_apart (sym put.old_is) ∙ h) (ap (list_all (apart set)) (sym put.old_is) ∙ all)
