-- What is known of sets, and of those within which they lie.
use Rattle.std.proofs.Common.{◌≡◌, sym, subst, ℕ, Bool, true, false, inl, inr, List, [], ◌∷◌, filter, true≢false}
use Rattle.std.specs.Prelude.{slice_get}
use Rattle.std.specs.List.{list_all, AllByRecursion}
use Rattle.std.proofs.lemmas.Bool.{and_parts, and_from, or_cases, or_from, or_parts, both_ways, false_from_ne_true}
use Rattle.vocab.specs.Study.{Question}
use Rattle.meaning.specs.Truth.{is_rule, is_axiom_true}
use Rattle.search_logs.proofs.PlaceLaws.{each_member, member_passes}
use Rattle.axiom_sets.specs.declared.maps.AxiomMap.{AxiomMap}
use Rattle.axiom_sets.specs.Sets.{is_within, has_part, has_whole}
use Rattle.axiom_sets.specs.Maps.{decides, covers, IsPut, HasImpossible, HasPossible, HasOpen}
use Rattle.axiom_sets.proofs.SetLaws.{each_kept, each_put, part_on, whole_on, within_member}
use Rattle.core_maps.specs.CoreMaps.{HasRule, IsImpossibleSet, IsOpen, IsRight}
use Rattle.core_maps.specs.Asking.{IsCoreOf, IsWider}

-- ---- lists of sets

pub no_part_on : (sets : List (List ℕ)) (a b : List ℕ) → has_part sets b ≡ false → is_within a b ≡ true → has_part sets a ≡ false
no_part_on sets a b h k = false_from_ne_true (has_part sets a) (λ e. both_ways (has_part sets b) h (part_on sets a b k e))

pub no_whole_on : (sets : List (List ℕ)) (a b : List ℕ) → has_whole sets a ≡ false → is_within a b ≡ true → has_whole sets b ≡ false
no_whole_on sets a b h k = false_from_ne_true (has_whole sets b) (λ e. both_ways (has_whole sets a) h (whole_on sets a b k e))

-- what holds of the sets of a list, and of one that is put among those that pass a test
all_put : (P : List ℕ → Type 0) (old new : List (List ℕ)) (test : List ℕ → Bool) (x : List ℕ) → IsPut old new test x → AllByRecursion P old → P x → AllByRecursion P new
all_put P old new test x put h here = each_put (filter test old) new x put P (each_kept P test old h) here

module _ (study : Question) where
  -- ---- rules

  -- a rule that satisfies a set satisfies what lies within it
  pub rule_of_part : (part set : List ℕ) → is_within part set ≡ true → HasRule study set → HasRule study part
  rule_of_part part set h r =
      let test : ℕ → Bool = λ k. is_axiom_true study.size r.0 (slice_get study.axioms k) in
      let e = and_parts (is_rule study.size r.0) (list_all test set) r.1 in
      (r.0, and_from (is_rule study.size r.0) (list_all test part) e.0 (each_member test part (λ c m. member_passes test set c e.1 (within_member part set c h m))))

  pub none_of_more : (part set : List ℕ) → is_within part set ≡ true → IsImpossibleSet study part → IsImpossibleSet study set
  none_of_more part set h no_rule table sat = let r = rule_of_part part set h (table, sat) in no_rule r.0 r.1

  pub rule_of_whole : (sets : List (List ℕ)) → AllByRecursion (HasRule study) sets → (set : List ℕ) → has_whole sets set ≡ true → HasRule study set
  rule_of_whole [] h set e = absurd (true≢false (sym e))
  rule_of_whole (s ∷ sets) h set e = elim (or_cases (is_within set s) (has_whole sets set) e) [ inl f ↦ rule_of_part set s f h.0 | inr f ↦ rule_of_whole sets h.1 set f ]

  pub none_of_part : (sets : List (List ℕ)) → AllByRecursion (IsImpossibleSet study) sets → (set : List ℕ) → has_part sets set ≡ true → IsImpossibleSet study set
  none_of_part [] h set e = absurd (true≢false (sym e))
  none_of_part (s ∷ sets) h set e = elim (or_cases (is_within s set) (has_part sets set) e) [ inl f ↦ none_of_more s set f h.0 | inr f ↦ none_of_part sets h.1 set f ]

  -- ---- what is found of a set that the map does not cover is new to it

  module _ (sets : AxiomMap) (right : IsRight study sets) (set : List ℕ) (uncovered : covers sets set ≡ false) where
    apart : (has_part sets.impossible set ≡ false) × (has_whole sets.possible set ≡ false) × (has_part sets.open set ≡ false)
    apart =
        let a = or_parts (decides sets set) (has_part sets.open set) uncovered in
        let b = or_parts (has_part sets.impossible set) (has_whole sets.possible set) a.0 in
        (b.0, b.1, a.1)

    pub core_is_fresh : (core : List ℕ) → IsCoreOf study set core → decides sets core ≡ false
    core_is_fresh core is =
        or_from (has_part sets.impossible core) (has_whole sets.possible core) (no_part_on sets.impossible core set apart.0 is.1)
        (false_from_ne_true (has_whole sets.possible core) (λ e. let r = rule_of_whole sets.possible right.possible core e in is.2 r.0 r.1))

    pub wider_is_fresh : (all : List ℕ) → IsWider study set all → decides sets all ≡ false
    wider_is_fresh all is =
        or_from (has_part sets.impossible all) (has_whole sets.possible all)
        (false_from_ne_true (has_part sets.impossible all) (λ e. none_of_part sets.impossible right.impossible all e is.2.0 is.2.1))
        (no_whole_on sets.possible set all apart.1 is.1)

    pub open_is_fresh : (part : List ℕ) → is_within part set ≡ true → has_whole sets.possible part ≡ false → covers sets part ≡ false
    open_is_fresh part in_set none =
        or_from (decides sets part) (has_part sets.open part) (or_from (has_part sets.impossible part) (has_whole sets.possible part) (no_part_on sets.impossible part set apart.0 in_set) none)
        (no_part_on sets.open part set apart.2 in_set)

  -- ---- one set more

  pub right_impossible : (old new : AxiomMap) (set : List ℕ) → IsRight study old → HasImpossible old new set → IsImpossibleSet study set → IsRight study new
  right_impossible old new set h has is = record {
    impossible = all_put (IsImpossibleSet study) old.impossible new.impossible _ set has.impossible h.impossible is;
    possible = subst (AllByRecursion (HasRule study)) (sym has.possible) h.possible;
    open_sets = subst (AllByRecursion (IsOpen study)) (sym has.open_sets) (each_kept (IsOpen study) _ old.open h.open_sets);
  }

  pub right_possible : (old new : AxiomMap) (set : List ℕ) → IsRight study old → HasPossible old new set → HasRule study set → IsRight study new
  right_possible old new set h has is = record {
    impossible = subst (AllByRecursion (IsImpossibleSet study)) (sym has.impossible) h.impossible;
    possible = all_put (HasRule study) old.possible new.possible _ set has.possible h.possible is;
    open_sets = subst (AllByRecursion (IsOpen study)) (sym has.open_sets) (each_kept (IsOpen study) _ old.open h.open_sets);
  }

  pub right_open : (old new : AxiomMap) (set : List ℕ) → IsRight study old → HasOpen old new set → IsOpen study set → IsRight study new
  right_open old new set h has is = record {
    impossible = subst (AllByRecursion (IsImpossibleSet study)) (sym has.impossible) h.impossible;
    possible = subst (AllByRecursion (HasRule study)) (sym has.possible) h.possible;
    open_sets = all_put (IsOpen study) old.open new.open _ set has.open_sets h.open_sets is;
  }
