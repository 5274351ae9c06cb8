-- How much is left to ask falls with each set that is added.
use Rattle.std.proofs.Common.{◌≡◌, refl, sym, ◌∙◌, ap, ap₂, subst, ℕ, zero, suc, ◌+◌, ◌*◌, ◌<◌, ◌≤◌, Bool, true, false, not, ◌&&◌, ◌||◌, cond, List, [], ◌∷◌, ◌++◌, map, filter, length, inl, inr, arith, true≢false, eqb-true, ltb-true, ltb-false}
use Rattle.std.specs.Prelude.{◌==◌, nat_lt}
use Rattle.std.proofs.lemmas.Bool.{eqb-false, and_parts, and_from, not-true, not_from_false, false_from_ne_true}
use Rattle.std.proofs.lemmas.Nat.{mul-le}
use native.Mathlib.Nat.{add-mul}
use Rattle.meaning.specs.Cores.{is_core_from}
use Rattle.axiom_sets.specs.declared.maps.AxiomMap.{AxiomMap}
use Rattle.axiom_sets.specs.Sets.{is_set, has_part, has_whole}
use Rattle.axiom_sets.specs.Maps.{decides, covers, HasImpossible, HasPossible, HasOpen}
use Rattle.axiom_sets.specs.Counts.{sets_from, count_failing, left_to_ask}
use Rattle.axiom_sets.proofs.TidyLaws.{decides_impossible, decides_new_impossible, decides_possible, decides_new_possible, covers_open, covers_new_open}
use Rattle.lists.proofs.TestLaws.{kept_few}
use Rattle.lists.proofs.Members.{IsIn, in_left, in_right, map_in}

-- ---- items of lists

module _ {X : Type 0} where
  -- what fails the second of two tests fails the first, where the second passes all that the first passes
  module _ (p q : X → Bool) (on : (x : X) → p x ≡ true → q x ≡ true) where
    fewer_or_same : (xs : List X) → length (filter (λ x. not (q x)) xs) ≤ length (filter (λ x. not (p x)) xs)
    fewer_or_same [] = omega arith
    fewer_or_same (x ∷ xs) = cases (p x) (q x) (on x) (fewer_or_same xs)
      where
        cases : (a b : Bool) → (a ≡ true → b ≡ true) → length (filter (λ y. not (q y)) xs) ≤ length (filter (λ y. not (p y)) xs)
            → length (cond (not b) (x ∷ filter (λ y. not (q y)) xs) (filter (λ y. not (q y)) xs)) ≤ length (cond (not a) (x ∷ filter (λ y. not (p y)) xs) (filter (λ y. not (p y)) xs))
        cases true true f ih = ih
        cases true false f ih = absurd (true≢false (sym (f refl)))
        cases false true f ih = omega (arith, ih)
        cases false false f ih = omega (arith, ih)

    fewer : (xs : List X) (x : X) → IsIn xs x → p x ≡ false → q x ≡ true → length (filter (λ y. not (q y)) xs) < length (filter (λ y. not (p y)) xs)
    fewer [] x h fails passes = absurd h
    fewer (y ∷ xs) x (inl e) fails passes = here (p y) (q y) (ap p e ∙ fails) (ap q e ∙ passes) (fewer_or_same xs)
      where
        here : (a b : Bool) → a ≡ false → b ≡ true → length (filter (λ z. not (q z)) xs) ≤ length (filter (λ z. not (p z)) xs)
            → length (cond (not b) (y ∷ filter (λ z. not (q z)) xs) (filter (λ z. not (q z)) xs)) < length (cond (not a) (y ∷ filter (λ z. not (p z)) xs) (filter (λ z. not (p z)) xs))
        here true b f g le = absurd (true≢false f)
        here false false f g le = absurd (true≢false (sym g))
        here false true f g le = omega (arith, le)
    fewer (y ∷ xs) x (inr e) fails passes = cases (p y) (q y) (on y) (fewer xs x e fails passes)
      where
        cases : (a b : Bool) → (a ≡ true → b ≡ true) → length (filter (λ z. not (q z)) xs) < length (filter (λ z. not (p z)) xs)
            → length (cond (not b) (y ∷ filter (λ z. not (q z)) xs) (filter (λ z. not (q z)) xs)) < length (cond (not a) (y ∷ filter (λ z. not (p z)) xs) (filter (λ z. not (p z)) xs))
        cases true true f ih = ih
        cases true false f ih = absurd (true≢false (sym (f refl)))
        cases false true f ih = omega (arith, ih)
        cases false false f ih = omega (arith, ih)

-- ---- all sets

-- each set is one of all
all_sets : (at count : ℕ) (set : List ℕ) → is_core_from at (at + count) set ≡ true → IsIn (sets_from at count) set
all_sets at zero [] h = inl refl
all_sets at zero (k ∷ ks) h =
    let a = and_parts (not (nat_lt k at) && nat_lt k (at + 0)) (is_core_from (k + 1) (at + 0) ks) h in
    let b = and_parts (not (nat_lt k at)) (nat_lt k (at + 0)) a.0 in
    let low = ltb-false k at (not-true _ b.0) in
    let high = ltb-true k (at + 0) b.1 in
    absurd (omega (arith, low, high))
all_sets at (suc n) [] h = in_left (sets_from (at + 1) n) _ [] (all_sets (at + 1) n [] refl)
all_sets at (suc n) (k ∷ ks) h =
    cases (k == at) refl (all_sets (at + 1) n)
  where
    end : at + suc n ≡ at + 1 + n
    end = omega arith

    a : ((not (nat_lt k at) && nat_lt k (at + suc n)) ≡ true) × (is_core_from (k + 1) (at + suc n) ks ≡ true)
    a = and_parts (not (nat_lt k at) && nat_lt k (at + suc n)) (is_core_from (k + 1) (at + suc n) ks) h

    b : (not (nat_lt k at) ≡ true) × (nat_lt k (at + suc n) ≡ true)
    b = and_parts (not (nat_lt k at)) (nat_lt k (at + suc n)) a.0

    cases : (e : Bool) → (k == at) ≡ e → ((set : List ℕ) → is_core_from (at + 1) (at + 1 + n) set ≡ true → IsIn (sets_from (at + 1) n) set)
        → IsIn (sets_from (at + 1) n ++ map (λ set. at ∷ set) (sets_from (at + 1) n)) (k ∷ ks)
    cases true e ih =
        let same : k ≡ at = eqb-true k at e in
        let rest : is_core_from (at + 1) (at + 1 + n) ks ≡ true = subst (λ (m : ℕ). is_core_from (at + 1) m ks ≡ true) end (subst (λ (m : ℕ). is_core_from (m + 1) (at + suc n) ks ≡ true) same a.1) in
        subst (λ (m : ℕ). IsIn (sets_from (at + 1) n ++ map (λ set. at ∷ set) (sets_from (at + 1) n)) (m ∷ ks)) (sym same)
        (in_right (sets_from (at + 1) n) _ (at ∷ ks) (map_in (λ set. at ∷ set) (sets_from (at + 1) n) ks (ih ks rest)))
    cases false e ih =
        let low = ltb-false k at (not-true _ b.0) in
        let other = eqb-false k at e in
        let above : at + 1 ≤ k = omega (arith, low, other) in
        let not_below : nat_lt k (at + 1) ≡ false = false_from_ne_true _ (λ l. let m = ltb-true k (at + 1) l in absurd (omega (arith, m, above))) in
        in_left (sets_from (at + 1) n) _ (k ∷ ks)
        (ih (k ∷ ks) (subst (λ (m : ℕ). (not (nat_lt k (at + 1)) && nat_lt k m && is_core_from (k + 1) m ks) ≡ true) end (and_from _ _ (and_from _ _ (not_from_false _ not_below) b.1) a.1)))

one_of_all : (count : ℕ) (set : List ℕ) → is_set count set ≡ true → IsIn (sets_from 0 count) set
one_of_all count set h = let e : count ≡ 0 + count = omega arith in all_sets 0 count set (subst (λ (m : ℕ). is_core_from 0 m set ≡ true) e h)

-- ---- the measure

module _ (count : ℕ) where
  -- a test that passes what another passes, and a set that this one fails
  count_falls : (p q : List ℕ → Bool) → ((s : List ℕ) → p s ≡ true → q s ≡ true) → (set : List ℕ) → is_set count set ≡ true → p set ≡ false → q set ≡ true → count_failing count q < count_failing count p
  count_falls p q on set is fails passes = fewer p q on (sets_from 0 count) set (one_of_all count set is) fails passes

  falls_first : (d e u w n : ℕ) → d < e → u ≤ n → d * (n + 1) + u < e * (n + 1) + w
  falls_first d e u w n less few =
      let le : (d + 1) * (n + 1) ≤ e * (n + 1) = mul-le (d + 1) (n + 1) e (n + 1) (omega (arith, less)) (omega arith) in
      let more : (d + 1) * (n + 1) ≡ d * (n + 1) + 1 * (n + 1) = add-mul d 1 (n + 1) in
      let one : 1 * (n + 1) ≡ n + 1 = omega arith in
      omega (arith, le, more, one, few)

  falls_by : (old new : AxiomMap) → count_failing count (decides new) < count_failing count (decides old) → left_to_ask count new < left_to_ask count old
  falls_by old new less =
      falls_first (count_failing count (decides new)) (count_failing count (decides old)) (count_failing count (covers new)) (count_failing count (covers old)) (length (sets_from 0 count)) less
      (kept_few (λ set. not (covers new set)) (sets_from 0 count))

  module _ (old new : AxiomMap) (set : List ℕ) (is : is_set count set ≡ true) where
    pub impossible_falls : decides old set ≡ false → HasImpossible old new set → left_to_ask count new < left_to_ask count old
    impossible_falls fresh h = falls_by old new (count_falls (decides old) (decides new) (decides_impossible set old new h) set is fresh (decides_new_impossible set old new h))

    pub possible_falls : decides old set ≡ false → HasPossible old new set → left_to_ask count new < left_to_ask count old
    possible_falls fresh h = falls_by old new (count_falls (decides old) (decides new) (decides_possible set old new h) set is fresh (decides_new_possible set old new h))

    pub open_falls : covers old set ≡ false → HasOpen old new set → left_to_ask count new < left_to_ask count old
    open_falls fresh h =
        let less : count_failing count (covers new) < count_failing count (covers old) = count_falls (covers old) (covers new) (covers_open set old new h) set is fresh (covers_new_open set old new h) in
        let same : count_failing count (decides new) ≡ count_failing count (decides old) = ap₂ (λ (i p : List (List ℕ)). count_failing count (λ s. has_part i s || has_whole p s)) h.impossible h.possible in
        let first : count_failing count (decides new) * (length (sets_from 0 count) + 1) ≡ count_failing count (decides old) * (length (sets_from 0 count) + 1) = ap (λ (n : ℕ). n * (length (sets_from 0 count) + 1)) same in
        omega (arith, less, first)
