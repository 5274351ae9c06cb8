-- The clauses of the study of some instances are within the limits where those of all instances are.
use Rattle.std.proofs.Common.{◌≡◌, refl, sym, ◌∙◌, ap, ap₂, subst, ℕ, zero, suc, ◌+◌, ◌<◌, ◌≤◌, Bool, true, false, ◌⊎◌, not, inl, inr, List, [], ◌∷◌, ◌++◌, map, take, drop, length, get_or, length-append, append-nil, take-append-drop, arith, Option, Some, None, sum_by, ltb-true, eqb-true, nat_eq}
use Rattle.std.specs.Prelude.{if◌then◌else◌, nat_lt, slice_get, find, option_map, option_and_then}
use Rattle.std.specs.Cmp.Lexicographic.{pointwise}
use Rattle.std.specs.List.{flat_map, list_all, list_any}
use Rattle.std.specs.Option.{option_map_or, option_or}
use Rattle.std.proofs.Math.Seq.{take-suc}
use Rattle.std.proofs.lemmas.Bool.{and_parts, le-ltb, ltb-false, or_cases, or_parts, or_from}
use Rattle.std.proofs.lemmas.List.{length-map}
use Rattle.std.proofs.lemmas.List.Concat.{flat_map-append}
use Rattle.std.proofs.lemmas.List.Sums.{sum_by-cons, sum_by-append, sum_by_push}
use Rattle.std.proofs.lemmas.Option.{slice_get-get_or}
use Rattle.lists.proofs.TestLaws.{all_get}
use Rattle.lists.proofs.OptionLaws.{none_of_map, none_of_either}
use Rattle.vocab.specs.declared.kinds.Sort.TheVariants.{Profile}
use Rattle.vocab.specs.Limits.{instance_count}
use Rattle.vocab.specs.Size.{Extent, sort_count}
use Rattle.vocab.specs.Study.{Question, IsStudy}
use Rattle.vocab.specs.Titled.{Titled}
use Rattle.vocab.specs.Tree.{Tree}
use Rattle.vocab.proofs.Ranges.{below_more}
use Rattle.cnf.specs.Signed.{Signed}
use Rattle.cnf.specs.Sat.{Clause, same_lit, is_tautology}
use Rattle.meaning.specs.declared.clauses.Counts.{Counts}
use Rattle.meaning.specs.declared.clauses.Origin.TheVariants.{Instance}
use Rattle.meaning.specs.Clauses.{Disjunction, plus}
use Rattle.meaning.specs.Instances.{instance_values}
use Rattle.meaning.specs.Measure.{measure_of}
use Rattle.meaning.specs.Space.{up_from, below}
use Rattle.meaning.specs.StudyClauses.{Sourced, sorted_in, sorted, firsts, clauses_of, instance_of, from_frame, from_instance, from_axiom, clauses_for}
use Rattle.meaning.specs.Variables.{lit_of}
use Rattle.meaning.specs.Written.{Written}
use Rattle.clause_form.specs.Refusals.{is_over_limits, counts_at, wide_instance, first_wide, first_full, ground_fault}
use Rattle.clause_form.specs.declared.refusals.GroundFault.TheVariants.{Full}
use Rattle.clause_form.specs.Wide.{is_wide}
use Rattle.closing.specs.Closed.{closed_body}
use Rattle.closing.proofs.SentenceLaws.{is_instance}
use Rattle.search_logs.specs.Spent.{all_places}
use Rattle.verdicts.proofs.WordLaws.{in_below}
use Rattle.sharp_verdicts.specs.declared.instances.Cited.{Cited}
use Rattle.sharp_verdicts.specs.Derived.{axiom_of, axioms_from, derived_study}
use Rattle.sharp_verdicts.specs.Instances.{count_at, is_present, all_instances}
use Rattle.instance_studies.proofs.StudyLaws.{length_from, has_axiom}
use Rattle.instance_stories.specs.Codes.{code_of, AreRisingInstances, HaveAxiomRoom}
use Rattle.instance_stories.proofs.AllInstances.{cited_of, decoded, all_rise, all_small, all_have, counts_few, present_small, sum_within}
use Rattle.instance_grounds.proofs.StandLaws.{closed_is}
use Rattle.sharp_verdicts.proofs.DerivedLaws.{derived_get}
use Rattle.sharp_verdicts.specs.Totals.{counts_of_instance, IsWithinTotal}
use Rattle.grounding.specs.Rising.{includes}
use Rattle.lists.proofs.Members.{IsIn}

-- ---- nothing found

none_or : {A : Type 0} (o p : Option A) → o ≡ None → p ≡ None → option_or o p ≡ None
none_or None p e f = f
none_or (Some a) p e f = absurd cc

found_none : (t : ℕ → Bool) (xs : List ℕ) (k : ℕ) → find t xs ≡ None → IsIn xs k → t k ≡ false
found_none t [] k h i = absurd i
found_none t (x ∷ xs) k h i = by (t x) refl h i (found_none t xs k)
  where
    by : (b : Bool) → t x ≡ b → (if b then Some x else find t xs) ≡ None → (x ≡ k) ⊎ IsIn xs k → (find t xs ≡ None → IsIn xs k → t k ≡ false) → t k ≡ false
    by true e h i ih = absurd cc
    by false e h (inl same) ih = ap t (sym same) ∙ e
    by false e h (inr j) ih = ih h j

none_found : (t : ℕ → Bool) (n : ℕ) → n ≡ 1 → t 0 ≡ false → find t (below n) ≡ None
none_found t n one e = ap (λ (m : ℕ). find t (below m)) one ∙ ap (λ b. if b then Some 0 else None) e

-- ---- counts of clauses, once some are left out

abbrev lits : List Sourced → ℕ
lits ss = sum_by (λ (s : Sourced). length s.clause) ss

firsts_few : (seen : List Clause) (ss : List Sourced) → length (firsts seen ss) ≤ length ss
firsts_few seen [] = omega arith
firsts_few seen (s ∷ ss) = by (list_any (pointwise same_lit s.clause) seen) (firsts_few seen ss) (firsts_few (s.clause ∷ seen) ss)
  where
    by : (b : Bool) → length (firsts seen ss) ≤ length ss → length (firsts (s.clause ∷ seen) ss) ≤ length ss → length (if b then firsts seen ss else s ∷ firsts (s.clause ∷ seen) ss) ≤ suc (length ss)
    by true f g = omega (arith, f)
    by false f g = omega (arith, g)

firsts_lits : (seen : List Clause) (ss : List Sourced) → lits (firsts seen ss) ≤ lits ss
firsts_lits seen [] = omega arith
firsts_lits seen (s ∷ ss) = by (list_any (pointwise same_lit s.clause) seen) (firsts_lits seen ss) (firsts_lits (s.clause ∷ seen) ss)
  where
    by : (b : Bool) → lits (firsts seen ss) ≤ lits ss → lits (firsts (s.clause ∷ seen) ss) ≤ lits ss → lits (if b then firsts seen ss else s ∷ firsts (s.clause ∷ seen) ss) ≤ lits (s ∷ ss)
    by true f g = let here = sum_by-cons (λ (s : Sourced). length s.clause) s ss in omega (arith, f, here)
    by false f g =
        let here = sum_by-cons (λ (s : Sourced). length s.clause) s ss in
        let there = sum_by-cons (λ (s : Sourced). length s.clause) s (firsts (s.clause ∷ seen) ss) in
        omega (arith, g, here, there)

sorted_in_short : (l : Signed) (c : Clause) → length (sorted_in l c) ≤ suc (length c)
sorted_in_short l [] = omega arith
sorted_in_short l (k ∷ ks) = by (nat_lt l.variable k.variable) (same_lit l k) (sorted_in_short l ks)
  where
    by : (a b : Bool) → length (sorted_in l ks) ≤ suc (length ks) → length (if a then l ∷ k ∷ ks else (if b then k ∷ ks else k ∷ sorted_in l ks)) ≤ suc (suc (length ks))
    by true b h = omega arith
    by false true h = omega arith
    by false false h = omega (arith, h)

sorted_short : (c : Clause) → length (sorted c) ≤ length c
sorted_short [] = omega arith
sorted_short (l ∷ ls) = let ih = sorted_short ls in let here = sorted_in_short l (sorted ls) in omega (arith, ih, here)

module _ (size : Extent) where
  abbrev row_of : Disjunction → Clause
  row_of row = sorted (map (lit_of size) row)

  row_short : (row : Disjunction) → length (row_of row) ≤ length row
  row_short row = let s = sorted_short (map (lit_of size) row) in let m = length-map row (lit_of size) in omega (arith, s, m)

  rows_few : (rows : List Disjunction) → length (clauses_of size rows) ≤ length rows
  rows_few [] = omega arith
  rows_few (row ∷ rows) = by (not (is_tautology (row_of row))) (rows_few rows)
    where
      by : (b : Bool) → length (clauses_of size rows) ≤ length rows → length (if b then row_of row ∷ clauses_of size rows else clauses_of size rows) ≤ suc (length rows)
      by true h = omega (arith, h)
      by false h = omega (arith, h)

  rows_lits : (rows : List Disjunction) → sum_by length (clauses_of size rows) ≤ sum_by length rows
  rows_lits [] = omega arith
  rows_lits (row ∷ rows) = by (not (is_tautology (row_of row))) (rows_lits rows)
    where
      by : (b : Bool) → sum_by length (clauses_of size rows) ≤ sum_by length rows → sum_by length (if b then row_of row ∷ clauses_of size rows else clauses_of size rows) ≤ sum_by length (row ∷ rows)
      by true h =
          let here = sum_by-cons length row rows in
          let there = sum_by-cons length (row_of row) (clauses_of size rows) in
          let short = row_short row in
          omega (arith, h, here, there, short)
      by false h = let here = sum_by-cons length row rows in omega (arith, h, here)

  -- the clauses of one instance
  sourced_lits : (f : Clause → Sourced) → ((c : Clause) → (f c).clause ≡ c) → (cs : List Clause) → lits (map f cs) ≡ sum_by length cs
  sourced_lits f same [] = refl
  sourced_lits f same (c ∷ cs) =
      sum_by-cons (λ (s : Sourced). length s.clause) (f c) (map f cs) ∙ ap₂ (λ (a b : ℕ). a + b) (ap length (same c)) (sourced_lits f same cs) ∙ sym (sum_by-cons length c cs)

  one_instance : (place : ℕ) (f : Tree) → instance_count size f ≡ 1 → flat_map (from_instance size place f) (below (instance_count size f)) ≡ from_instance size place f 0
  one_instance place f one = ap (λ (n : ℕ). flat_map (from_instance size place f) (below n)) one ∙ append-nil (from_instance size place f 0)

  axiom_few : (place : ℕ) (a : Titled) → instance_count size a.sentence ≡ 1 → length (from_axiom size place (Some a)) ≤ length (plus (instance_of size a.sentence 0))
  axiom_few place a one =
      let kept = firsts_few [] (flat_map (from_instance size place a.sentence) (below (instance_count size a.sentence))) in
      let same = ap length (one_instance place a.sentence one) in
      let mapped = length-map (clauses_of size (plus (instance_of size a.sentence 0))) (λ (c : Clause). let s : Sourced = record { clause = c; origin = Instance place 0 } in s) in
      let rows = rows_few (plus (instance_of size a.sentence 0)) in
      omega (arith, kept, same, mapped, rows)

  axiom_lits : (place : ℕ) (a : Titled) → instance_count size a.sentence ≡ 1 → lits (from_axiom size place (Some a)) ≤ sum_by length (plus (instance_of size a.sentence 0))
  axiom_lits place a one =
      let kept = firsts_lits [] (flat_map (from_instance size place a.sentence) (below (instance_count size a.sentence))) in
      let same = ap lits (one_instance place a.sentence one) in
      let mapped = sourced_lits (λ c. record { clause = c; origin = Instance place 0 }) (λ c. refl) (clauses_of size (plus (instance_of size a.sentence 0))) in
      let rows = rows_lits (plus (instance_of size a.sentence 0)) in
      omega (arith, kept, same, mapped, rows)

-- what a measure that is not too wide counts
narrow_clauses : (w : Written) → is_wide (measure_of w) ≡ false → length (plus w) ≤ (measure_of w).clauses
narrow_clauses w h = let few = ltb-false 100000 (measure_of w).clauses (or_parts (nat_lt 100000 (measure_of w).clauses) (nat_lt 4000000 (measure_of w).literals) h).0 in omega (arith, few)

narrow_literals : (w : Written) → is_wide (measure_of w) ≡ false → sum_by length (plus w) ≤ (measure_of w).literals
narrow_literals w h = let few = ltb-false 4000000 (measure_of w).literals (or_parts (nat_lt 100000 (measure_of w).clauses) (nat_lt 4000000 (measure_of w).literals) h).1 in omega (arith, few)

-- ---- the study of some instances

module _ (study : Question) (taken : IsStudy study) (total : IsWithinTotal study) where
  none_each : (chosen : List ℕ) → first_wide study.size study.axioms chosen ≡ None → (p : ℕ) → IsIn chosen p → option_and_then (wide_instance study.size study.axioms p) (slice_get study.axioms p) ≡ None
  none_each [] h p i = absurd i
  none_each (q ∷ chosen) h p (inl e) =
      let both = none_of_either (option_and_then (wide_instance study.size study.axioms q) (slice_get study.axioms q)) (first_wide study.size study.axioms chosen) h in
      subst (λ (r : ℕ). option_and_then (wide_instance study.size study.axioms r) (slice_get study.axioms r) ≡ None) e both.0
  none_each (q ∷ chosen) h p (inr i) =
      let both = none_of_either (option_and_then (wide_instance study.size study.axioms q) (slice_get study.axioms q)) (first_wide study.size study.axioms chosen) h in
      none_each chosen both.1 p i

  narrow_at : (p k : ℕ) (a : Titled) → p < length study.axioms → slice_get study.axioms p ≡ Some a → k < instance_count study.size a.sentence → is_wide (measure_of (instance_of study.size a.sentence k)) ≡ false
  narrow_at p k a lt e in_k =
      let none = none_each (all_places study) total.narrow p (in_below (length study.axioms) p lt) in
      let here : wide_instance study.size study.axioms p a ≡ None = subst (λ o. option_and_then (wide_instance study.size study.axioms p) o ≡ None) e none in
      found_none (λ j. is_wide (counts_at study.size study.axioms a.sentence j)) (below (instance_count study.size a.sentence)) k (none_of_map _ (find (λ j. is_wide (counts_at study.size study.axioms a.sentence j)) (below (instance_count study.size a.sentence))) here) (in_below (instance_count study.size a.sentence) k in_k)

  abbrev cl : Cited → ℕ
  cl c = (counts_of_instance study c).clauses

  abbrev li : Cited → ℕ
  li c = (counts_of_instance study c).literals

  -- an instance as an axiom of its own: it has one instance, which is not too wide and has at most the clauses and literals that were counted
  record IsFitting (place : ℕ) (c : Cited) : Type 0 where
    one : instance_count study.size (axiom_of study place c).sentence ≡ 1
    narrow : is_wide (measure_of (instance_of study.size (axiom_of study place c).sentence 0)) ≡ false
    few : length (from_axiom study.size place (Some (axiom_of study place c))) ≤ cl c
    small : lits (from_axiom study.size place (Some (axiom_of study place c))) ≤ li c

  fitting : (place : ℕ) (c : Cited) → is_present study c ≡ true → IsFitting place c
  fitting place c h =
      let e = and_parts (nat_lt c.«axiom» (length study.axioms)) (nat_lt c.number (count_at study c.«axiom»)) h in
      let r = has_axiom study c (slice_get study.axioms c.«axiom») refl e.1 in
      let a = r.0 in
      let closed : (axiom_of study place c).sentence ≡ closed_body a (instance_values study.size a.sentence c.number) = closed_is study [] c.«axiom» c.number a r.1 in
      let is = is_instance study.size a c.number in
      let one = ap (instance_count study.size) closed ∙ is.one in
      let written : instance_of study.size (axiom_of study place c).sentence 0 ≡ instance_of study.size a.sentence c.number = ap (λ (f : Tree). instance_of study.size f 0) closed ∙ is.written in
      let narrow = narrow_at c.«axiom» c.number a (ltb-true c.«axiom» (length study.axioms) e.0) r.1 r.2 in
      let counts : counts_of_instance study c ≡ measure_of (instance_of study.size a.sentence c.number) = ap (λ o. option_map_or (λ (b : Titled). counts_at study.size study.axioms b.sentence c.number) o (record { clauses = 0; literals = 0 })) r.1 in
      let clauses = ap (λ (x : Counts). x.clauses) counts in
      let literals = ap (λ (x : Counts). x.literals) counts in
      let plus_same : plus (instance_of study.size (axiom_of study place c).sentence 0) ≡ plus (instance_of study.size a.sentence c.number) = ap plus written in
      let count = ap length plus_same in
      let sum = ap (sum_by length) plus_same in
      let few = axiom_few study.size place (axiom_of study place c) one in
      let small = axiom_lits study.size place (axiom_of study place c) one in
      let nc = narrow_clauses (instance_of study.size a.sentence c.number) narrow in
      let nl = narrow_literals (instance_of study.size a.sentence c.number) narrow in
      record {
        one = one;
        narrow = ap (λ w. is_wide (measure_of w)) written ∙ narrow;
        few = omega (arith, few, count, nc, clauses);
        small = omega (arith, small, sum, nl, literals);
      }

  module _ (instances : List Cited) (present : list_all (is_present study) instances ≡ true) (rising : AreRisingInstances instances) where
    abbrev daxioms : List Titled
    daxioms = axioms_from study 0 instances

    abbrev no_instance : Cited
    no_instance = record { «axiom» = 0; number = 0 }

    at_place : (i : ℕ) → i < length instances → slice_get instances i ≡ Some (get_or instances i no_instance)
    at_place i lt = slice_get-get_or instances i no_instance lt

    axiom_at : (i : ℕ) → i < length instances → slice_get daxioms i ≡ Some (axiom_of study i (get_or instances i no_instance))
    axiom_at i lt = derived_get study instances i (get_or instances i no_instance) (at_place i lt)

    fit_at : (i : ℕ) → i < length instances → IsFitting i (get_or instances i no_instance)
    fit_at i lt = fitting i (get_or instances i no_instance) (all_get (is_present study) instances i (get_or instances i no_instance) present (at_place i lt))

    -- ---- none is too wide

    narrow_place : (i : ℕ) → i < length instances → option_and_then (wide_instance study.size daxioms i) (slice_get daxioms i) ≡ None
    narrow_place i lt =
        let fit = fit_at i lt in
        ap (option_and_then (wide_instance study.size daxioms i)) (axiom_at i lt)
        ∙ ap (option_map _) (none_found (λ k. is_wide (counts_at study.size daxioms (axiom_of study i (get_or instances i no_instance)).sentence k)) (instance_count study.size (axiom_of study i (get_or instances i no_instance)).sentence) fit.one fit.narrow)

    none_wide : (a n : ℕ) → a + n ≤ length instances → first_wide study.size daxioms (up_from a n) ≡ None
    none_wide a zero le = refl
    none_wide a (suc n) le = none_or _ _ (narrow_place a (omega (arith, le))) (none_wide (suc a) n (omega (arith, le)))

    -- ---- nor are they too many

    abbrev from_place : ℕ → List Sourced
    from_place p = from_axiom study.size p (slice_get daxioms p)

    place_few : (i : ℕ) → i < length instances → length (from_place i) ≤ cl (get_or instances i no_instance)
    place_few i lt = subst (λ (o : Option Titled). length (from_axiom study.size i o) ≤ cl (get_or instances i no_instance)) (sym (axiom_at i lt)) (fit_at i lt).few

    place_small : (i : ℕ) → i < length instances → lits (from_place i) ≤ li (get_or instances i no_instance)
    place_small i lt = subst (λ (o : Option Titled). lits (from_axiom study.size i o) ≤ li (get_or instances i no_instance)) (sym (axiom_at i lt)) (fit_at i lt).small

    take_more : (m : ℕ) → m < length instances → take (m + 1) instances ≡ take m instances ++ get_or instances m no_instance ∷ []
    take_more m lt = let up : m + 1 ≡ suc m = omega arith in ap (λ (k : ℕ). take k instances) up ∙ take-suc instances m no_instance lt

    flat_more : (m : ℕ) → flat_map from_place (below (m + 1)) ≡ flat_map from_place (below m) ++ from_place m
    flat_more m = ap (flat_map from_place) (below_more m) ∙ flat_map-append from_place (below m) (m ∷ []) ∙ ap (λ (ss : List Sourced). flat_map from_place (below m) ++ ss) (append-nil (from_place m))

    front_few : (m : ℕ) → m ≤ length instances → length (flat_map from_place (below m)) ≤ sum_by cl (take m instances)
    front_few zero le = omega arith
    front_few (suc m) le =
        let up : suc m ≡ m + 1 = omega arith in
        let ih = front_few m (omega (arith, le)) in
        let more : length (flat_map from_place (below (m + 1))) ≡ length (flat_map from_place (below m)) + length (from_place m) = ap length (flat_more m) ∙ length-append (flat_map from_place (below m)) (from_place m) in
        let sum : sum_by cl (take (m + 1) instances) ≡ sum_by cl (take m instances) + cl (get_or instances m no_instance) = ap (sum_by cl) (take_more m (omega (arith, le))) ∙ sum_by_push cl (take m instances) (get_or instances m no_instance) in
        let here = place_few m (omega (arith, le)) in
        subst (λ (k : ℕ). length (flat_map from_place (below k)) ≤ sum_by cl (take k instances)) (sym up) (omega (arith, ih, more, sum, here))

    front_small : (m : ℕ) → m ≤ length instances → lits (flat_map from_place (below m)) ≤ sum_by li (take m instances)
    front_small zero le = omega arith
    front_small (suc m) le =
        let up : suc m ≡ m + 1 = omega arith in
        let ih = front_small m (omega (arith, le)) in
        let more : lits (flat_map from_place (below (m + 1))) ≡ lits (flat_map from_place (below m)) + lits (from_place m) = ap lits (flat_more m) ∙ sum_by-append (λ (s : Sourced). length s.clause) (flat_map from_place (below m)) (from_place m) in
        let sum : sum_by li (take (m + 1) instances) ≡ sum_by li (take m instances) + li (get_or instances m no_instance) = ap (sum_by li) (take_more m (omega (arith, le))) ∙ sum_by_push li (take m instances) (get_or instances m no_instance) in
        let here = place_small m (omega (arith, le)) in
        subst (λ (k : ℕ). lits (flat_map from_place (below k)) ≤ sum_by li (take k instances)) (sym up) (omega (arith, ih, more, sum, here))

    front_within : (f : Cited → ℕ) (m : ℕ) → sum_by f (take m instances) ≤ sum_by f instances
    front_within f m =
        let whole : sum_by f (take m instances ++ drop m instances) ≡ sum_by f instances = ap (sum_by f) (take-append-drop m instances) in
        let parts = sum_by-append f (take m instances) (drop m instances) in
        omega (arith, whole, parts)

    by_codes : (f : Cited → ℕ) (cs : List Cited) → HaveAxiomRoom cs → sum_by f cs ≡ sum_by (λ (n : ℕ). f (cited_of n)) (map code_of cs)
    by_codes f [] h = refl
    by_codes f (c ∷ cs) h =
        sum_by-cons f c cs ∙ ap₂ (λ (a b : ℕ). a + b) (ap f (sym (decoded c h.0))) (by_codes f cs h.1) ∙ sym (sum_by-cons (λ (n : ℕ). f (cited_of n)) (code_of c) (map code_of cs))

    stands_among : (cs : List Cited) → list_all (is_present study) cs ≡ true → (k : ℕ) → includes (map code_of cs) k ≡ true → includes (map code_of (all_instances study)) k ≡ true
    stands_among [] h k e = absurd cc
    stands_among (c ∷ cs) h k e =
        let p = and_parts (is_present study c) (list_all (is_present study) cs) h in
        elim (or_cases (nat_eq k (code_of c)) (includes (map code_of cs) k) e) [
          | inl t ↦ subst (λ (n : ℕ). includes (map code_of (all_instances study)) n ≡ true) (sym (eqb-true k (code_of c) t)) (all_have study (counts_few study taken) c p.0)
          | inr t ↦ stands_among cs p.1 k t
        ]

    all_within : (f : Cited → ℕ) → sum_by f instances ≤ sum_by f (all_instances study)
    all_within f =
        let sum = sum_within (λ (n : ℕ). f (cited_of n)) 0 (map code_of instances) (map code_of (all_instances study)) rising (all_rise study (counts_few study taken)) (stands_among instances present) in
        let one = by_codes f instances (present_small study taken instances present) in
        let all = by_codes f (all_instances study) (all_small study (counts_few study taken)) in
        omega (arith, sum, one, all)

    -- ---- all together

    abbrev frames : List Sourced
    frames = flat_map (from_frame study.size) (below (sort_count study.size Profile))

    clause_lits : (ss : List Sourced) → sum_by length (map (λ (s : Sourced). s.clause) ss) ≡ lits ss
    clause_lits [] = refl
    clause_lits (s ∷ ss) = sum_by-cons length s.clause (map (λ (t : Sourced). t.clause) ss) ∙ ap (λ (n : ℕ). length s.clause + n) (clause_lits ss) ∙ sym (sum_by-cons (λ (t : Sourced). length t.clause) s ss)

    frame_count : length (clauses_for study.size study.axioms []) ≡ length frames
    frame_count = length-map (frames ++ []) (λ (s : Sourced). s.clause) ∙ ap length (append-nil frames)

    frame_lits : sum_by length (clauses_for study.size study.axioms []) ≡ lits frames
    frame_lits = clause_lits (frames ++ []) ∙ ap lits (append-nil frames)

    within : (m : ℕ) → m ≤ length instances → is_over_limits (clauses_for study.size daxioms (below m)) ≡ false
    within m le =
        let count : length (clauses_for study.size daxioms (below m)) ≡ length frames + length (flat_map from_place (below m)) = length-map (frames ++ flat_map from_place (below m)) (λ (s : Sourced). s.clause) ∙ length-append frames (flat_map from_place (below m)) in
        let sum : sum_by length (clauses_for study.size daxioms (below m)) ≡ lits frames + lits (flat_map from_place (below m)) = clause_lits (frames ++ flat_map from_place (below m)) ∙ sum_by-append (λ (s : Sourced). length s.clause) frames (flat_map from_place (below m)) in
        let few = front_few m le in
        let small = front_small m le in
        let few' = front_within cl m in
        let small' = front_within li m in
        let most = all_within cl in
        let most' = all_within li in
        or_from _ _ (le-ltb 4000000 (length (clauses_for study.size daxioms (below m))) (omega (arith, count, few, few', most, frame_count, total.clauses)))
        (le-ltb 60000000 (sum_by length (clauses_for study.size daxioms (below m))) (omega (arith, sum, small, small', most', frame_lits, total.literals)))

    none_full : (n m : ℕ) → m + n ≡ length instances → first_full study.size daxioms (below m) (up_from m n) ≡ None
    none_full zero m e = refl
    none_full (suc n) m e =
        let more : below m ++ m ∷ [] ≡ below (m + 1) = sym (below_more m) in
        let up : m + 1 ≡ suc m = omega arith in
        let over : is_over_limits (clauses_for study.size daxioms (below m ++ m ∷ [])) ≡ false = ap (λ (ps : List ℕ). is_over_limits (clauses_for study.size daxioms ps)) more ∙ within (m + 1) (omega (arith, e)) in
        let rest : first_full study.size daxioms (below m ++ m ∷ []) (up_from (suc m) n) ≡ None = ap (λ (ps : List ℕ). first_full study.size daxioms ps (up_from (suc m) n)) (more ∙ ap below up) ∙ none_full n (suc m) (omega (arith, e)) in
        ap (λ b. if b then Some (Full m) else first_full study.size daxioms (below m ++ m ∷ []) (up_from (suc m) n)) over ∙ rest

pub clauses_fit : (study : Question) (instances : List Cited) → IsStudy study → IsWithinTotal study → list_all (is_present study) instances ≡ true → AreRisingInstances instances → ground_fault study.size (axioms_from study 0 instances) (below (length instances)) ≡ None
clauses_fit study instances taken total present rising =
    none_or _ _ (none_wide study taken total instances present rising 0 (length instances) (omega arith)) (none_full study taken total instances present rising (length instances) 0 (omega arith))

-- the same of the study that was made, and of all its places
pub fits_made : (study : Question) (instances : List Cited) (derived : Question) (all : List ℕ) → IsStudy study → IsWithinTotal study → list_all (is_present study) instances ≡ true → AreRisingInstances instances
    → derived ≡ derived_study study instances → all ≡ all_places derived → ground_fault derived.size derived.axioms all ≡ None
fits_made study instances derived all taken total present rising made places =
    let count : all ≡ below (length instances) = places ∙ ap all_places made ∙ ap below (length_from study 0 instances) in
    ap₂ (λ (d : Question) (ps : List ℕ). ground_fault d.size d.axioms ps) made count ∙ clauses_fit study instances taken total present rising
