-- The fault of a table is the first axiom that it does not satisfy, at its least instance.
use Rattle.std.proofs.Common.{◌≡◌, refl, sym, ap, ◌∙◌, subst, ℕ, zero, suc, ◌<◌, ◌≤◌, inl, inr, Bool, true, false, not, ◌&&◌, ◌||◌, cond, List, [], ◌∷◌, ◌++◌, length, get_or, Option, Some, None, arith, true≢false, ltb-true, ◌↔◌}
use Rattle.std.specs.Prelude.{nat_lt, slice_get, IsTrue}
use Rattle.std.specs.List.{list_all, list_any}
use Rattle.std.proofs.lemmas.Bool.{and_parts, and_from, cases_lt, not-true, not-false}
use Rattle.std.proofs.lemmas.List.Sums.{fails_before_first}
use Rattle.vocab.specs.Limits.{instance_count}
use Rattle.vocab.specs.Study.{Question}
use Rattle.vocab.specs.Titled.{Titled}
use Rattle.meaning.specs.Instances.{is_instance_true, IsFirstFailure}
use Rattle.meaning.specs.Space.{below}
use Rattle.meaning.specs.Truth.{is_axiom_true}
use Rattle.meaning.proofs.InstanceLaws.{have_instances}
use Rattle.meaning.proofs.RankingLaws.{first_place}
use Rattle.meaning.proofs.SpaceLaws.{length-up_from}
use Rattle.meaning.proofs.ValueLoops.{all_fails}
use Rattle.meaning.proofs.BallotLaws.{up_from_at}
use Rattle.verdicts.specs.declared.refusals.Refusal.TheVariants.{Fails}
use Rattle.verdicts.specs.Faults.{least_false, failing, table_fault}
use Rattle.verdicts.specs.Laws.{IsFirstFailing}

get_or-below : (n k : ℕ) → k < n → get_or (below n) k 0 ≡ k
get_or-below n k h = up_from_at n 0 k h ∙ omega arith

-- where a test does not pass of all items, some item fails it
some_fails : (f : ℕ → Bool) (xs : List ℕ) → list_all f xs ≡ false → list_any (λ k. not (f k)) xs ≡ true
some_fails f [] h = absurd (true≢false h)
some_fails f (x ∷ xs) h = by_test (f x) h (some_fails f xs)
  where
    by_test : (b : Bool) → (b && list_all f xs) ≡ false → (list_all f xs ≡ false → list_any (λ k. not (f k)) xs ≡ true) → (not b || list_any (λ k. not (f k)) xs) ≡ true
    by_test true e go = go e
    by_test false e go = refl

-- there is an axiom at each place of a list
some_there : (axioms : List Titled) (k : ℕ) → k < length axioms → slice_get axioms k ≡ None → ⊥
some_there [] k h e = omega (arith, h)
some_there (a ∷ axioms) zero h e = cc
some_there (a ∷ axioms) (suc k) h e = some_there axioms k (omega (arith, h)) e

module _ (study : Question) (table : List ℕ) where
  abbrev Failure : Titled → ℕ → Type 0
  Failure a k = IsFirstFailure study.size table a.sentence 0 (instance_count study.size a.sentence) k

  -- its instances, and those that are false
  abbrev count : Titled → ℕ
  count a = instance_count study.size a.sentence

  abbrev is_false : Titled → ℕ → Bool
  is_false a k = not (is_instance_true study.size table a.sentence k)

  -- the least instance that is false
  pub failure_is_first : (a : Titled) → is_axiom_true study.size table (Some a) ≡ false → Failure a (least_false study table a)
  failure_is_first a h = record { not_before = omega arith; within = within; fails = fails; first = first }
    where
      found : (least_false study table a < length (below (count a))) × (is_false a (get_or (below (count a)) (least_false study table a) 0) ≡ true)
      found = first_place (is_false a) 0 (below (count a)) (some_fails (is_instance_true study.size table a.sentence) (below (count a)) (sym (have_instances study.size table a.sentence) ∙ h))

      within : least_false study table a < count a
      within = omega (arith, found.0, length-up_from 0 (count a))

      fails : is_instance_true study.size table a.sentence (least_false study table a) ≡ false
      fails = not-true _ (ap (is_false a) (sym (get_or-below (count a) (least_false study table a) within)) ∙ found.1)

      first : (k : ℕ) → 0 ≤ k → k < least_false study table a → is_instance_true study.size table a.sentence k ≡ true
      first k low less = not-false _ (ap (is_false a) (sym (get_or-below (count a) k (omega (arith, less, within)))) ∙ fails_before_first (is_false a) (below (count a)) k 0 less)

  failure_is_false : (a : Titled) (k : ℕ) → Failure a k → is_axiom_true study.size table (Some a) ≡ false
  failure_is_false a k f = have_instances study.size table a.sentence ∙ all_fails (is_instance_true study.size table a.sentence) (instance_count study.size a.sentence) k f.within f.fails

  failure_is_one : (a : Titled) (j k : ℕ) → Failure a j → Failure a k → j ≡ k
  failure_is_one a j k f g = elim (cases_lt j k) [
    | inl less ↦ absurd (true≢false (sym (g.first j f.not_before less) ∙ f.fails))
    | inr le ↦ elim (cases_lt k j) [
      | inl less ↦ absurd (true≢false (sym (f.first k g.not_before less) ∙ g.fails))
      | inr ge ↦ omega (arith, le, ge)
    ]
  ]

  abbrev are_true : List ℕ → Bool
  are_true places = list_all (λ k. is_axiom_true study.size table (slice_get study.axioms k)) places

  -- ---- no fault

  none_from : (places : List ℕ) → are_true places ≡ true → table_fault study table places ≡ None
  none_from [] h = refl
  none_from (k ∷ places) h =
      let p = and_parts (is_axiom_true study.size table (slice_get study.axioms k)) (are_true places) h in
      ap (λ b. cond b (table_fault study table places) (failing study table (slice_get study.axioms k))) p.0 ∙ none_from places p.1

  true_from : (places : List ℕ) → table_fault study table places ≡ None → are_true places ≡ true
  true_from [] e = refl
  true_from (k ∷ places) e = by_test (is_axiom_true study.size table (slice_get study.axioms k)) (slice_get study.axioms k) e (true_from places)
    where
      by_test : (b : Bool) (o : Option Titled) → cond b (table_fault study table places) (failing study table o) ≡ None → (table_fault study table places ≡ None → are_true places ≡ true) → (b && are_true places) ≡ true
      by_test true o f go = go f
      by_test false None f go = absurd (cc)
      by_test false (Some a) f go = absurd (cc)

  -- ---- a fault

  same_fails : (v w : List ℕ) (j k : ℕ) → Some (Fails v j) ≡ Some (Fails w k) → (v ≡ w) × (j ≡ k)
  same_fails v w j k e = let a : v ≡ w = cc in let b : j ≡ k = cc in (a, b)

  next_failing : (k : ℕ) (places name : List ℕ) (instance : ℕ) → is_axiom_true study.size table (slice_get study.axioms k) ≡ true → IsFirstFailing study table places name instance → IsFirstFailing study table (k ∷ places) name instance
  next_failing k places name instance h f =
      record { before = k ∷ f.before; place = f.place; after = f.after; failing = f.failing; split = ap (λ ks. k ∷ ks) f.split; at = f.at; named = f.named; satisfied = and_from _ _ h f.satisfied; first = f.first }

  failing_from : (places name : List ℕ) (instance : ℕ) → list_all (λ k. nat_lt k (length study.axioms)) places ≡ true → table_fault study table places ≡ Some (Fails name instance) → IsFirstFailing study table places name instance
  failing_from [] name instance h e = absurd (cc)
  failing_from (k ∷ places) name instance h e =
      let p = and_parts (nat_lt k (length study.axioms)) (list_all (λ k. nat_lt k (length study.axioms)) places) h in
      by_test (is_axiom_true study.size table (slice_get study.axioms k)) refl (slice_get study.axioms k) refl e (failing_from places name instance p.1)
    where
      by_test : (b : Bool) → is_axiom_true study.size table (slice_get study.axioms k) ≡ b → (o : Option Titled) → slice_get study.axioms k ≡ o → cond b (table_fault study table places) (failing study table o) ≡ Some (Fails name instance) →
          (table_fault study table places ≡ Some (Fails name instance) → IsFirstFailing study table places name instance) → IsFirstFailing study table (k ∷ places) name instance
      by_test true d o g f go = next_failing k places name instance d (go f)
      by_test false d None g f go = absurd (some_there study.axioms k (ltb-true k (length study.axioms) (and_parts (nat_lt k (length study.axioms)) _ h).0) g)
      by_test false d (Some a) g f go =
          let same = same_fails a.name name (least_false study table a) instance f in
          record {
            before = [];
            place = k;
            after = places;
            failing = a;
            split = refl;
            at = g;
            named = sym same.0;
            satisfied = refl;
            first = subst (Failure a) same.1 (failure_is_first a (ap (is_axiom_true study.size table) (sym g) ∙ d));
          }

  failing_to : (places before : List ℕ) (k : ℕ) (after name : List ℕ) (instance : ℕ) (a : Titled) → are_true before ≡ true → slice_get study.axioms k ≡ Some a → name ≡ a.name → Failure a instance → table_fault study table (before ++ k ∷ after) ≡ Some (Fails name instance)
  failing_to places [] k after name instance a h g e f =
      ap (λ b. cond b (table_fault study table after) (failing study table (slice_get study.axioms k))) (ap (is_axiom_true study.size table) g ∙ failure_is_false a instance f)
      ∙ ap (failing study table) g
      ∙ ap (λ w. Some (Fails w (least_false study table a))) (sym e)
      ∙ ap (λ n. Some (Fails name n)) (failure_is_one a (least_false study table a) instance (failure_is_first a (failure_is_false a instance f)) f)
  failing_to places (j ∷ before) k after name instance a h g e f =
      let p = and_parts (is_axiom_true study.size table (slice_get study.axioms j)) (are_true before) h in
      ap (λ b. cond b (table_fault study table (before ++ k ∷ after)) (failing study table (slice_get study.axioms j))) p.0 ∙ failing_to places before k after name instance a p.1 g e f

  pub table_faults : (places : List ℕ) → list_all (λ k. nat_lt k (length study.axioms)) places ≡ true →
      ((table_fault study table places ≡ None) ↔ IsTrue (are_true places)) × ((name : List ℕ) (instance : ℕ) → (table_fault study table places ≡ Some (Fails name instance)) ↔ IsFirstFailing study table places name instance)
  table_faults places h = (
    (true_from places, none_from places),
    λ name instance. (failing_from places name instance h, λ f. ap (table_fault study table) f.split ∙ failing_to places f.before f.place f.after name instance f.failing f.satisfied f.at f.named f.first),
  )
