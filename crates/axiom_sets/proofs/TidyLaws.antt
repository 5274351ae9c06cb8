-- What a map keeps when a set is added.
use Rattle.std.proofs.Common.{◌≡◌, ◌∙◌, ap, ap₂, ℕ, Bool, true, false, not, ◌&&◌, ◌||◌, List, filter, inl, inr, ◌⊎◌}
use Rattle.std.specs.List.{list_all}
use Rattle.std.proofs.lemmas.Bool.{and_parts, and_left, and_right, or_cases, or_parts, or_from, or_left, or_right, both_ways, not-true, not_from_false, false_from_ne_true, not-false}
use Rattle.lists.proofs.TestLaws.{all_kept, kept_pass, all_weaker}
use Rattle.meaning.proofs.TestLaws.{none_passes}
use Rattle.axiom_sets.specs.declared.maps.AxiomMap.{AxiomMap}
use Rattle.axiom_sets.specs.Sets.{is_set, is_within, has_part, has_whole, is_rising}
use Rattle.axiom_sets.specs.Maps.{decides, covers, are_apart, IsTidy, HasImpossible, HasPossible, HasOpen}
use Rattle.axiom_sets.proofs.SetLaws.{all_both, any_kept, any_split, apart, apart_kept, within_on, within_self, all_put, any_put, apart_put}
use Rattle.axiom_sets.proofs.OrderLaws.{other_than, rising_kept}

module _ (set : List ℕ) where
  -- the sets within which a set does not lie, and those that do not lie within it
  abbrev pub not_larger : List ℕ → Bool
  not_larger s = not (is_within set s)

  abbrev pub not_smaller : List ℕ → Bool
  not_smaller s = not (is_within s set)

  pub fresh_larger : (sets : List (List ℕ)) → list_all (other_than set) (filter not_larger sets) ≡ true
  fresh_larger sets = all_weaker not_larger (other_than set) (λ s e. not_from_false _ (and_right (is_within s set) (is_within set s) (not-true _ e))) (filter not_larger sets) (kept_pass not_larger sets)

  pub fresh_smaller : (sets : List (List ℕ)) → list_all (other_than set) (filter not_smaller sets) ≡ true
  fresh_smaller sets = all_weaker not_smaller (other_than set) (λ s e. not_from_false _ (and_left (is_within s set) (is_within set s) (not-true _ e))) (filter not_smaller sets) (kept_pass not_smaller sets)

  apart_larger : (sets : List (List ℕ)) → has_part sets set ≡ false → list_all (apart set) (filter not_larger sets) ≡ true
  apart_larger sets h = all_both not_smaller not_larger (filter not_larger sets) (all_kept not_smaller not_larger sets (none_passes (λ s. is_within s set) sets h)) (kept_pass not_larger sets)

  apart_smaller : (sets : List (List ℕ)) → has_whole sets set ≡ false → list_all (apart set) (filter not_smaller sets) ≡ true
  apart_smaller sets h = all_both not_smaller not_larger (filter not_smaller sets) (kept_pass not_smaller sets) (all_kept not_larger not_smaller sets (none_passes (is_within set) sets h))

  module _ (old new : AxiomMap) where
    -- ---- an impossible set more

    module _ (h : HasImpossible old new set) where
      part_impossible : (s : List ℕ) → has_part new.impossible s ≡ (has_part (filter not_larger old.impossible) s || is_within set s)
      part_impossible s = any_put (filter not_larger old.impossible) new.impossible set h.impossible (λ o. is_within o s)

      pub decides_impossible : (s : List ℕ) → decides old s ≡ true → decides new s ≡ true
      decides_impossible s e = elim (or_cases (has_part old.impossible s) (has_whole old.possible s) e) [
        | inl part ↦ or_left _ _ (part_impossible s ∙ among (any_split (λ o. is_within o s) not_larger old.impossible part))
        | inr whole ↦ or_right (has_part new.impossible s) _ (ap (λ (ss : List (List ℕ)). has_whole ss s) h.possible ∙ whole)
      ]
        where
          among : (has_part (filter not_larger old.impossible) s ≡ true) ⊎ ((o : List ℕ) × (is_within o s ≡ true) × (not_larger o ≡ false))
              → (has_part (filter not_larger old.impossible) s || is_within set s) ≡ true
          among (inl kept) = or_left _ _ kept
          among (inr gone) = or_right _ _ (within_on set gone.0 s (not-false _ gone.2) gone.1)

      pub decides_new_impossible : decides new set ≡ true
      decides_new_impossible = or_left _ _ (part_impossible set ∙ or_right _ _ (within_self set))

      undecided_impossible : (s : List ℕ) → (not (decides old s) && not_larger s) ≡ true → not (decides new s) ≡ true
      undecided_impossible s e =
          let p = and_parts (not (decides old s)) (not_larger s) e in
          let q = or_parts (has_part old.impossible s) (has_whole old.possible s) (not-true _ p.0) in
          let none : has_part (filter not_larger old.impossible) s ≡ false = false_from_ne_true _ (λ k. both_ways _ q.0 (any_kept (λ o. is_within o s) not_larger old.impossible k)) in
          not_from_false _ (or_from _ _ (part_impossible s ∙ or_from _ _ none (not-true _ p.1)) (ap (λ (ss : List (List ℕ)). has_whole ss s) h.possible ∙ q.1))

      pub tidy_impossible : (count : ℕ) → IsTidy count old → is_set count set ≡ true → decides old set ≡ false → is_rising new.impossible ≡ true → IsTidy count new
      tidy_impossible count tidy is fresh rising =
          let kept = filter not_larger old.impossible in
          let none = or_parts (has_part old.impossible set) (has_whole old.possible set) fresh in
          record {
            impossible = all_put kept new.impossible set h.impossible (is_set count) (all_kept (is_set count) not_larger old.impossible tidy.impossible) is;
            possible = ap (list_all (is_set count)) h.possible ∙ tidy.possible;
            open_sets = ap (list_all (is_set count)) h.open_sets ∙ all_kept (is_set count) not_larger old.open tidy.open_sets;
            impossible_rise = rising;
            possible_rise = ap is_rising h.possible ∙ tidy.possible_rise;
            open_rise = ap is_rising h.open_sets ∙ rising_kept not_larger old.open tidy.open_rise;
            least = apart_put kept new.impossible set h.impossible (apart_kept not_larger old.impossible tidy.least) (apart_larger old.impossible none.0);
            largest = ap are_apart h.possible ∙ tidy.largest;
            least_open = ap are_apart h.open_sets ∙ apart_kept not_larger old.open tidy.least_open;
            undecided = ap (list_all (λ s. not (decides new s))) h.open_sets
                ∙ all_weaker (λ s. not (decides old s) && not_larger s) (λ s. not (decides new s)) undecided_impossible (filter not_larger old.open)
                (all_both (λ s. not (decides old s)) not_larger (filter not_larger old.open) (all_kept (λ s. not (decides old s)) not_larger old.open tidy.undecided) (kept_pass not_larger old.open));
          }

    -- ---- a possible set more

    module _ (h : HasPossible old new set) where
      whole_possible : (s : List ℕ) → has_whole new.possible s ≡ (has_whole (filter not_smaller old.possible) s || is_within s set)
      whole_possible s = any_put (filter not_smaller old.possible) new.possible set h.possible (is_within s)

      pub decides_possible : (s : List ℕ) → decides old s ≡ true → decides new s ≡ true
      decides_possible s e = elim (or_cases (has_part old.impossible s) (has_whole old.possible s) e) [
        | inl part ↦ or_left _ _ (ap (λ (ss : List (List ℕ)). has_part ss s) h.impossible ∙ part)
        | inr whole ↦ or_right (has_part new.impossible s) _ (whole_possible s ∙ among (any_split (is_within s) not_smaller old.possible whole))
      ]
        where
          among : (has_whole (filter not_smaller old.possible) s ≡ true) ⊎ ((o : List ℕ) × (is_within s o ≡ true) × (not_smaller o ≡ false))
              → (has_whole (filter not_smaller old.possible) s || is_within s set) ≡ true
          among (inl kept) = or_left _ _ kept
          among (inr gone) = or_right _ _ (within_on s gone.0 set gone.1 (not-false _ gone.2))

      pub decides_new_possible : decides new set ≡ true
      decides_new_possible = or_right (has_part new.impossible set) _ (whole_possible set ∙ or_right _ _ (within_self set))

      undecided_possible : (s : List ℕ) → (not (decides old s) && not_smaller s) ≡ true → not (decides new s) ≡ true
      undecided_possible s e =
          let p = and_parts (not (decides old s)) (not_smaller s) e in
          let q = or_parts (has_part old.impossible s) (has_whole old.possible s) (not-true _ p.0) in
          let none : has_whole (filter not_smaller old.possible) s ≡ false = false_from_ne_true _ (λ k. both_ways _ q.1 (any_kept (is_within s) not_smaller old.possible k)) in
          not_from_false _ (or_from _ _ (ap (λ (ss : List (List ℕ)). has_part ss s) h.impossible ∙ q.0) (whole_possible s ∙ or_from _ _ none (not-true _ p.1)))

      pub tidy_possible : (count : ℕ) → IsTidy count old → is_set count set ≡ true → decides old set ≡ false → is_rising new.possible ≡ true → IsTidy count new
      tidy_possible count tidy is fresh rising =
          let kept = filter not_smaller old.possible in
          let none = or_parts (has_part old.impossible set) (has_whole old.possible set) fresh in
          record {
            impossible = ap (list_all (is_set count)) h.impossible ∙ tidy.impossible;
            possible = all_put kept new.possible set h.possible (is_set count) (all_kept (is_set count) not_smaller old.possible tidy.possible) is;
            open_sets = ap (list_all (is_set count)) h.open_sets ∙ all_kept (is_set count) not_smaller old.open tidy.open_sets;
            impossible_rise = ap is_rising h.impossible ∙ tidy.impossible_rise;
            possible_rise = rising;
            open_rise = ap is_rising h.open_sets ∙ rising_kept not_smaller old.open tidy.open_rise;
            least = ap are_apart h.impossible ∙ tidy.least;
            largest = apart_put kept new.possible set h.possible (apart_kept not_smaller old.possible tidy.largest) (apart_smaller old.possible none.1);
            least_open = ap are_apart h.open_sets ∙ apart_kept not_smaller old.open tidy.least_open;
            undecided = ap (list_all (λ s. not (decides new s))) h.open_sets
                ∙ all_weaker (λ s. not (decides old s) && not_smaller s) (λ s. not (decides new s)) undecided_possible (filter not_smaller old.open)
                (all_both (λ s. not (decides old s)) not_smaller (filter not_smaller old.open) (all_kept (λ s. not (decides old s)) not_smaller old.open tidy.undecided) (kept_pass not_smaller old.open));
          }

    -- ---- an open set more

    module _ (h : HasOpen old new set) where
      pub decides_same : (s : List ℕ) → decides new s ≡ decides old s
      decides_same s = ap₂ (λ (is ps : List (List ℕ)). has_part is s || has_whole ps s) h.impossible h.possible

      part_open : (s : List ℕ) → has_part new.open s ≡ (has_part (filter not_larger old.open) s || is_within set s)
      part_open s = any_put (filter not_larger old.open) new.open set h.open_sets (λ o. is_within o s)

      pub covers_open : (s : List ℕ) → covers old s ≡ true → covers new s ≡ true
      covers_open s e = elim (or_cases (decides old s) (has_part old.open s) e) [
        | inl decided ↦ or_left _ _ (decides_same s ∙ decided)
        | inr part ↦ or_right (decides new s) _ (part_open s ∙ among (any_split (λ o. is_within o s) not_larger old.open part))
      ]
        where
          among : (has_part (filter not_larger old.open) s ≡ true) ⊎ ((o : List ℕ) × (is_within o s ≡ true) × (not_larger o ≡ false))
              → (has_part (filter not_larger old.open) s || is_within set s) ≡ true
          among (inl kept) = or_left _ _ kept
          among (inr gone) = or_right _ _ (within_on set gone.0 s (not-false _ gone.2) gone.1)

      pub covers_new_open : covers new set ≡ true
      covers_new_open = or_right (decides new set) _ (part_open set ∙ or_right _ _ (within_self set))

      pub tidy_open : (count : ℕ) → IsTidy count old → is_set count set ≡ true → covers old set ≡ false → is_rising new.open ≡ true → IsTidy count new
      tidy_open count tidy is fresh rising =
          let kept = filter not_larger old.open in
          let none = or_parts (decides old set) (has_part old.open set) fresh in
          let same : (s : List ℕ) → not (decides old s) ≡ true → not (decides new s) ≡ true = λ s e. ap not (decides_same s) ∙ e in
          record {
            impossible = ap (list_all (is_set count)) h.impossible ∙ tidy.impossible;
            possible = ap (list_all (is_set count)) h.possible ∙ tidy.possible;
            open_sets = all_put kept new.open set h.open_sets (is_set count) (all_kept (is_set count) not_larger old.open tidy.open_sets) is;
            impossible_rise = ap is_rising h.impossible ∙ tidy.impossible_rise;
            possible_rise = ap is_rising h.possible ∙ tidy.possible_rise;
            open_rise = rising;
            least = ap are_apart h.impossible ∙ tidy.least;
            largest = ap are_apart h.possible ∙ tidy.largest;
            least_open = apart_put kept new.open set h.open_sets (apart_kept not_larger old.open tidy.least_open) (apart_larger old.open none.1);
            undecided = all_put kept new.open set h.open_sets (λ s. not (decides new s))
                (all_weaker (λ s. not (decides old s)) (λ s. not (decides new s)) same kept (all_kept (λ s. not (decides old s)) not_larger old.open tidy.undecided))
                (same set (not_from_false _ none.0));
          }
