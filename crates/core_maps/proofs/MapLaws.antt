-- What holds of maps.
use Rattle.std.proofs.Common.{◌≡◌, refl, sym, ◌∙◌, ap, subst, ℕ, ◌≤◌, ◌<◌, ◌^◌, Bool, true, false, not, ◌&&◌, ◌⊎◌, inl, inr, List, [], ◌∷◌, length, arith, true≢false}
use Rattle.std.specs.Prelude.{IsTrue, ◌↔◌}
use Rattle.std.specs.List.{list_all, AllByRecursion}
use Rattle.std.proofs.lemmas.Bool.{and_parts, or_cases, or_from, not-true, both_ways, false_from_ne_true}
use Rattle.vocab.specs.Study.{Question}
use Rattle.cnf.proofs.SpentLaws.{spent_is_short}
use Rattle.meaning.specs.StudyClauses.{clauses_for}
use Rattle.meaning.specs.Variables.{variable_count}
use Rattle.search_logs.specs.Spent.{has_place}
use Rattle.axiom_sets.specs.Sets.{is_set, is_within, has_part, has_whole}
use Rattle.axiom_sets.specs.Maps.{decides, covers, are_apart}
use Rattle.axiom_sets.proofs.SetLaws.{within_member, within_on}
use Rattle.core_reduce.specs.Reducing.{others}
use Rattle.core_reduce.proofs.CoreLaws.{core-filter, others_lack}
use Rattle.core_maps.specs.declared.answers.CoreMap.{CoreMap}
use Rattle.core_maps.specs.declared.answers.Ending.TheVariants.{Whole}
use Rattle.core_maps.specs.CoreMaps.{HasRule, IsImpossibleSet, IsOpen, IsMapping, MapEndsAs}
use Rattle.core_maps.proofs.SetLaws.{others_within}
use Rattle.core_maps.proofs.KnownLaws.{none_of_part, rule_of_whole}

-- ---- sets of which none lies within another

all_with : (P Q : List ℕ → Type 0) (test : List ℕ → Bool) (sets : List (List ℕ)) → ((s : List ℕ) → test s ≡ true → P s → Q s) → list_all test sets ≡ true → AllByRecursion P sets → AllByRecursion Q sets
all_with P Q test [] f h p = tt
all_with P Q test (s ∷ sets) f h p = let e = and_parts (test s) (list_all test sets) h in (f s e.0 p.0, all_with P Q test sets f e.1 p.1)

no_part : (x t : List ℕ) (sets : List (List ℕ)) → list_all (λ s. not (is_within s x) && not (is_within x s)) sets ≡ true → is_within t x ≡ true → has_part sets t ≡ false
no_part x t [] h k = refl
no_part x t (s ∷ sets) h k =
    let e = and_parts (not (is_within s x) && not (is_within x s)) (list_all (λ u. not (is_within u x) && not (is_within x u)) sets) h in
    let f = and_parts (not (is_within s x)) (not (is_within x s)) e.0 in
    or_from (is_within s t) (has_part sets t) (false_from_ne_true (is_within s t) (λ g. both_ways (is_within s x) (not-true (is_within s x) f.0) (within_on s t x g k))) (no_part x t sets e.1 k)

no_whole : (x t : List ℕ) (sets : List (List ℕ)) → list_all (λ s. not (is_within s x) && not (is_within x s)) sets ≡ true → is_within x t ≡ true → has_whole sets t ≡ false
no_whole x t [] h k = refl
no_whole x t (s ∷ sets) h k =
    let e = and_parts (not (is_within s x) && not (is_within x s)) (list_all (λ u. not (is_within u x) && not (is_within x u)) sets) h in
    let f = and_parts (not (is_within s x)) (not (is_within x s)) e.0 in
    or_from (is_within t s) (has_whole sets t) (false_from_ne_true (is_within t s) (λ g. both_ways (is_within x s) (not-true (is_within x s) f.1) (within_on x t s k g))) (no_whole x t sets e.1 k)

-- none of the sets lies within a part of one of them that is another
abbrev pub HasNoPart : List (List ℕ) → List ℕ → Type 0
HasNoPart sets set = (t : List ℕ) → is_within t set ≡ true → is_within set t ≡ false → has_part sets t ≡ false

-- nor does what has one of them, and is another, lie within one
abbrev pub HasNoWhole : List (List ℕ) → List ℕ → Type 0
HasNoWhole sets set = (t : List ℕ) → is_within set t ≡ true → is_within t set ≡ false → has_whole sets t ≡ false

no_parts : (sets : List (List ℕ)) → are_apart sets ≡ true → AllByRecursion (HasNoPart sets) sets
no_parts [] h = tt
no_parts (x ∷ sets) h =
    let e = and_parts (list_all (λ s. not (is_within s x) && not (is_within x s)) sets) (are_apart sets) h in (
      λ t k l. or_from (is_within x t) (has_part sets t) l (no_part x t sets e.0 k),
      all_with (HasNoPart sets) (HasNoPart (x ∷ sets)) (λ s. not (is_within s x) && not (is_within x s)) sets
          (λ s a p t k l.
          or_from (is_within x t) (has_part sets t)
          (false_from_ne_true (is_within x t) (λ g. both_ways (is_within x s) (not-true (is_within x s) (and_parts (not (is_within s x)) (not (is_within x s)) a).1) (within_on x t s g k)))
          (p t k l))
          e.0 (no_parts sets e.1),
    )

no_wholes : (sets : List (List ℕ)) → are_apart sets ≡ true → AllByRecursion (HasNoWhole sets) sets
no_wholes [] h = tt
no_wholes (x ∷ sets) h =
    let e = and_parts (list_all (λ s. not (is_within s x) && not (is_within x s)) sets) (are_apart sets) h in (
      λ t k l. or_from (is_within t x) (has_whole sets t) l (no_whole x t sets e.0 k),
      all_with (HasNoWhole sets) (HasNoWhole (x ∷ sets)) (λ s. not (is_within s x) && not (is_within x s)) sets
          (λ s a p t k l.
          or_from (is_within t x) (has_whole sets t)
          (false_from_ne_true (is_within t x) (λ g. both_ways (is_within s x) (not-true (is_within s x) (and_parts (not (is_within s x)) (not (is_within x s)) a).0) (within_on s t x k g)))
          (p t k l))
          e.0 (no_wholes sets e.1),
    )

-- a set that has an axiom does not lie within one that lacks it
lacks : (a b : List ℕ) (k : ℕ) → has_place a k ≡ true → has_place b k ≡ false → is_within a b ≡ false
lacks a b k h g = false_from_ne_true (is_within a b) (λ e. both_ways (has_place b k) g (within_member a b k e h))

module _ (study : Question) (map : CoreMap) (is : IsMapping study map) where
  -- ---- the laws

  covered : map.ending ≡ Whole → (set : List ℕ) → is_set (length study.axioms) set ≡ true → covers map.sets set ≡ true
  covered whole = subst (MapEndsAs study map.sets) whole is.ends

  known : map.ending ≡ Whole → (set : List ℕ) → is_set (length study.axioms) set ≡ true
      → (has_part map.sets.impossible set ≡ true) ⊎ ((has_whole map.sets.possible set ≡ true) ⊎ (has_part map.sets.open set ≡ true))
  known whole set h = elim (or_cases (decides map.sets set) (has_part map.sets.open set) (covered whole set h)) [
    | inl d ↦ elim (or_cases (has_part map.sets.impossible set) (has_whole map.sets.possible set) d) [ inl a ↦ inl a | inr b ↦ inr (inl b) ]
    | inr o ↦ inr (inr o)
  ]

  pub minimal : map.ending ≡ Whole → AllByRecursion (λ set. (k : ℕ) → IsTrue (has_place set k) → HasRule study (others k set) ⊎ IsTrue (has_part map.sets.open (others k set))) map.sets.impossible
  minimal whole =
      all_with (HasNoPart map.sets.impossible) (λ set. (k : ℕ) → IsTrue (has_place set k) → HasRule study (others k set) ⊎ IsTrue (has_part map.sets.open (others k set)))
      (is_set (length study.axioms)) map.sets.impossible
      (λ set in_study p k m.
      elim (known whole (others k set) (core-filter _ 0 (length study.axioms) set in_study)) [
        | inl a ↦ absurd (both_ways (has_part map.sets.impossible (others k set)) (p (others k set) (others_within k set) (lacks set (others k set) k m (others_lack k set))) a)
        | inr b ↦ elim b [ inl w ↦ inl (rule_of_whole study map.sets.possible is.right.possible (others k set) w) | inr o ↦ inr o ]
      ])
      is.tidy.impossible (no_parts map.sets.impossible is.tidy.least)

  pub largest : map.ending ≡ Whole → AllByRecursion (λ set. (more : List ℕ) (k : ℕ) → IsTrue (is_set (length study.axioms) more) → IsTrue (is_within set more) → IsTrue (has_place more k) → has_place set k ≡ false → IsImpossibleSet study more ⊎ IsTrue (has_part map.sets.open more)) map.sets.possible
  largest whole =
      all_with (HasNoWhole map.sets.possible)
      (λ set. (more : List ℕ) (k : ℕ) → IsTrue (is_set (length study.axioms) more) → IsTrue (is_within set more) → IsTrue (has_place more k) → has_place set k ≡ false → IsImpossibleSet study more ⊎ IsTrue (has_part map.sets.open more))
      (is_set (length study.axioms)) map.sets.possible
      (λ set in_study p more k is_more w m l.
      elim (known whole more is_more) [
        | inl a ↦ inl (none_of_part study map.sets.impossible is.right.impossible more a)
        | inr b ↦ elim b [ inl v ↦ absurd (both_ways (has_whole map.sets.possible more) (p more w (lacks more set k m l)) v) | inr o ↦ inr o ]
      ])
      is.tidy.possible (no_wholes map.sets.possible is.tidy.largest)

  pub decided : map.ending ≡ Whole → map.sets.open ≡ [] → (set : List ℕ) → IsTrue (is_set (length study.axioms) set)
      → (HasRule study set ↔ IsTrue (has_whole map.sets.possible set)) × (IsImpossibleSet study set ↔ IsTrue (has_part map.sets.impossible set))
  decided whole none set h =
      let either : (has_part map.sets.impossible set ≡ true) ⊎ (has_whole map.sets.possible set ≡ true) =
      elim (known whole set h) [
        | inl a ↦ inl a
        | inr b ↦ elim b [ inl w ↦ inr w | inr o ↦ absurd (true≢false (sym o ∙ ap (λ (ss : List (List ℕ)). has_part ss set) none)) ]
      ] in (
        (
          λ r. elim either [ inl a ↦ absurd (none_of_part study map.sets.impossible is.right.impossible set a r.0 r.1) | inr w ↦ w ],
          λ w. rule_of_whole study map.sets.possible is.right.possible set w,
        ),
        (
          λ n. elim either [ inl a ↦ a | inr w ↦ let r = rule_of_whole study map.sets.possible is.right.possible set w in absurd (n r.0 r.1) ],
          λ a. none_of_part study map.sets.impossible is.right.impossible set a,
        ),
      )

  none_open : (sets : List (List ℕ)) → AllByRecursion (IsOpen study) sets → 3 ^ variable_count study.size ≤ study.conflicts → sets ≡ []
  none_open [] h enough = refl
  none_open (s ∷ sets) h enough =
      let short : study.conflicts < 3 ^ variable_count study.size = spent_is_short (variable_count study.size) (clauses_for study.size study.axioms s) study.conflicts h.0.0 h.0.1 in
      absurd (omega (arith, short, enough))

  pub none_left : 3 ^ variable_count study.size ≤ study.conflicts → map.sets.open ≡ []
  none_left enough = none_open map.sets.open is.right.open_sets enough
