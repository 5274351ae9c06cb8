-- The first gain is one, and there is one where some voter gains.
use Rattle.std.proofs.Common.{◌≡◌, refl, sym, ◌∙◌, subst, ℕ, Bool, true, false, not, cond, ◌&&◌, List, [], ◌∷◌, Option, None, Some, arith, lt-ltb, ltb-true}
use Rattle.std.specs.List.{find, list_all}
use Rattle.std.specs.Prelude.{nat_lt, MatchOption, IsTrue}
use Rattle.std.proofs.lemmas.Bool.{and_from, and_parts, not-true}
use Rattle.std.proofs.lemmas.List.Folds.{list_all-map}
use Rattle.vocab.specs.declared.kinds.Sort.TheVariants.{Ballot, Profile}
use Rattle.vocab.specs.Range.{below}
use Rattle.vocab.specs.Size.{Extent, sort_count}
use Rattle.meaning.proofs.SpaceLaws.{all_at, all_from}
use Rattle.meaning.proofs.TestLaws.{list_all-ext, list_all-flat_map}
use Rattle.choice_sets.specs.declared.gains.Manipulation.{Manipulation}
use Rattle.choice_sets.specs.Gains.{first_gain, gains, manipulations, of_profile, of_voter}
use Rattle.choice_sets.specs.Laws.{HasNoGain, IsManipulation}

module _ {A : Type 0} (t q : A → Bool) where
  -- where nothing is found, each item fails
  each_fails : (xs : List A) → find t xs ≡ None → list_all (λ x. not (t x)) xs ≡ true
  each_fails [] e = refl
  each_fails (x ∷ xs) e = by_test (t x) e (each_fails xs)
    where
      by_test : (b : Bool) → cond b (Some x) (find t xs) ≡ None → (find t xs ≡ None → list_all (λ y. not (t y)) xs ≡ true) → (not b && list_all (λ y. not (t y)) xs) ≡ true
      by_test true g rest = absurd cc
      by_test false g rest = rest g

  -- what is found passes, and is an item
  found_passes : (xs : List A) (x : A) → list_all q xs ≡ true → find t xs ≡ Some x → (q x ≡ true) × (t x ≡ true)
  found_passes [] x all e = absurd cc
  found_passes (y ∷ xs) x all e = by_test (t y) refl e (found_passes xs x parts.1)
    where
      parts : (q y ≡ true) × (list_all q xs ≡ true)
      parts = and_parts (q y) (list_all q xs) all

      by_test : (b : Bool) → t y ≡ b → cond b (Some y) (find t xs) ≡ Some x → (find t xs ≡ Some x → (q x ≡ true) × (t x ≡ true)) → (q x ≡ true) × (t x ≡ true)
      by_test true g h later = let same : y ≡ x = cc in subst (λ z. (q z ≡ true) × (t z ≡ true)) same (parts.0, g)
      by_test false g h later = later h

module _ (size : Extent) where
  -- a test of all manipulations, by their numbers
  abbrev all_of : (Manipulation → Bool) → Bool
  all_of t = list_all (λ p. list_all (λ i. list_all (λ b. t (record { profile = p; voter = i; ballot = b })) (below (sort_count size Ballot))) (below size.voters)) (below (sort_count size Profile))

  listed : (t : Manipulation → Bool) → list_all t (manipulations size) ≡ all_of t
  listed t =
      list_all-flat_map t (of_profile size) (below (sort_count size Profile))
      ∙ list_all-ext _ _ (below (sort_count size Profile)) (λ p. list_all-flat_map t (of_voter size p) (below size.voters)
      ∙ list_all-ext _ _ (below size.voters) (λ i. list_all-map t (λ b. record { profile = p; voter = i; ballot = b }) (below (sort_count size Ballot))))

  abbrev is_in : Manipulation → Bool
  is_in m = nat_lt m.profile (sort_count size Profile) && nat_lt m.voter size.voters && nat_lt m.ballot (sort_count size Ballot)

  all_in : list_all is_in (manipulations size) ≡ true
  all_in =
      listed is_in
      ∙ all_from _ (sort_count size Profile) 0 (λ p low in_p. all_from _ size.voters 0 (λ i low' in_i. all_from _ (sort_count size Ballot) 0 (λ b low'' in_b.
      and_from _ _ (and_from _ _ (lt-ltb p _ (omega (arith, in_p))) (lt-ltb i _ (omega (arith, in_i)))) (lt-ltb b _ (omega (arith, in_b))))))

  in_size : (m : Manipulation) → is_in m ≡ true → IsManipulation size m
  in_size m h =
      let e = and_parts (nat_lt m.profile (sort_count size Profile) && nat_lt m.voter size.voters) (nat_lt m.ballot (sort_count size Ballot)) h in
      let f = and_parts (nat_lt m.profile (sort_count size Profile)) (nat_lt m.voter size.voters) e.0 in
      record { profile = ltb-true _ _ f.0; voter = ltb-true _ _ f.1; ballot = ltb-true _ _ e.1 }

  none_gains : (table : List ℕ) → first_gain size table ≡ None → HasNoGain size table
  none_gains table e m inside =
      let t = λ (g : Manipulation). not (gains size table g) in
      let all = sym (listed t) ∙ each_fails (gains size table) is_in (manipulations size) e in
      let at_p = all_at _ (sort_count size Profile) 0 m.profile all (omega arith) (omega (arith, inside.profile)) in
      let at_i = all_at _ size.voters 0 m.voter at_p (omega arith) (omega (arith, inside.voter)) in
      not-true _ (all_at _ (sort_count size Ballot) 0 m.ballot at_i (omega arith) (omega (arith, inside.ballot)))

  pub are_found : (table : List ℕ) → MatchOption (first_gain size table) (HasNoGain size table) (λ m. IsManipulation size m × IsTrue (gains size table m))
  are_found table = by_answer (first_gain size table) refl
    where
      by_answer : (r : Option Manipulation) → first_gain size table ≡ r → MatchOption r (HasNoGain size table) (λ m. IsManipulation size m × IsTrue (gains size table m))
      by_answer None e = none_gains table e
      by_answer (Some m) e = let f = found_passes (gains size table) is_in (manipulations size) m all_in e in (in_size m f.0, f.1)
