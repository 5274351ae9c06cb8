-- The marks of the instances that a story cites, from the witnesses of the core over which it was told.
use Rattle.std.proofs.Common.{◌≡◌, refl, sym, ◌∙◌, ap, ap₂, subst, ℕ, zero, suc, ◌+◌, ◌<◌, ◌≤◌, Bool, true, false, ◌||◌, ◌&&◌, ◌==◌, not, ◌⊎◌, inl, inr, List, [], ◌∷◌, ◌++◌, map, filter, take, length, arith, Option, Some, None, All, true≢false, ltb-true, eqb-true, eq-eqb}
use Rattle.std.specs.Prelude.{nat_lt, slice_get, if◌then◌else◌}
use Rattle.std.specs.Cmp.Lexicographic.{pointwise}
use Rattle.std.specs.List.{list_all, list_any, AllByRecursion}
use Rattle.std.proofs.lemmas.List.Elements.{All-from_recursion}
use Rattle.std.specs.Option.{option_map_or}
use Rattle.std.proofs.lemmas.Bool.{and_from, and_parts, or_cases, or_left, or_right, or_parts, ltb-false, not-true}
use Rattle.std.proofs.lemmas.Option.{slice_get_within}
use Rattle.lists.proofs.TestLaws.{all_get}
use Rattle.vocab.specs.Size.{Extent}
use Rattle.vocab.specs.Study.{Question, IsStudy}
use Rattle.vocab.specs.Titled.{Titled}
use Rattle.meaning.specs.declared.cores.Witness.{Witness}
use Rattle.meaning.specs.declared.cores.Witness.TheVariants.{Rule, Open}
use Rattle.meaning.specs.declared.stories.Lemma.{Lemma}
use Rattle.meaning.specs.Cores.{is_witness, is_core_from}
use Rattle.meaning.specs.Instances.{instance_values, is_instance_true}
use Rattle.meaning.specs.Stories.{is_story}
use Rattle.meaning.specs.Truth.{is_rule, is_axiom_true, is_true_at}
use Rattle.meaning.proofs.InstanceLaws.{same_tests}
use Rattle.closing.proofs.SentenceLaws.{is_instance}
use Rattle.grounding.specs.Rising.{RisesFrom, includes}
use Rattle.search_logs.specs.declared.logs.SearchLog.{SearchLog}
use Rattle.search_logs.specs.Spent.{has_place, HasEvidence, HaveEvidence, IsWithout}
use Rattle.lists.proofs.Members.{in_filter, filter_in, map_in, IsIn}
use Rattle.sharp_verdicts.specs.declared.instances.Cited.{Cited}
use Rattle.sharp_verdicts.specs.Derived.{axioms_from, closed_at}
use Rattle.sharp_verdicts.specs.Instances.{same_instance, has_instance, others_than, is_present, is_true_of, all_instances, instances_of, is_told}
use Rattle.sharp_verdicts.specs.Right.{is_mark}
use Rattle.sharp_verdicts.specs.Sharpened.{chose, IsWithoutInstance, HasMarkEvidence, HaveMarkEvidence}
use Rattle.instance_stories.specs.Codes.{code_of, AreRisingInstances}
use Rattle.instance_stories.specs.Named.{story_named}
use Rattle.instance_stories.proofs.AllInstances.{rising_lists, filter_rises, filter_small, all_rise, all_small, counts_few, present_small}
use Rattle.sharp_verdicts.proofs.DerivedLaws.{derived_get}
use Rattle.told_instances.proofs.ToldLaws.{in_has, has_in}
use Rattle.sharpen.specs.Marks.{derived_instance, marks_kept}
use Rattle.sharpen.proofs.ToldLaws.{told_in_core}
use Rattle.sharp_verdicts.proofs.InstanceLaws.{same_is, is_same}
use Rattle.core_reduce.proofs.CoreLaws.{some_map}

-- ---- the instance at a place

instance_there : (instances : List Cited) (k : ℕ) → k < length instances → slice_get instances k ≡ Some (derived_instance instances k)
instance_there [] k lt = absurd (omega (arith, lt))
instance_there (c ∷ instances) zero lt = refl
instance_there (c ∷ instances) (suc k) lt = instance_there instances k (omega (arith, lt))

pub in_is : (instances : List Cited) (k : ℕ) (c : Cited) → slice_get instances k ≡ Some c → derived_instance instances k ≡ c
in_is instances k c e =
    let both : Some (derived_instance instances k) ≡ Some c = sym (instance_there instances k (slice_get_within instances k c e)) ∙ e in
    let same : derived_instance instances k ≡ c = cc in same

-- ---- each mark comes of a witness of the core

-- what holds of the witnesses of a core holds of the marks that are kept
kept_all : (listed instances : List Cited) (holds : ℕ → Witness → Bool) (right : Cited → Witness → Bool) (ks : List ℕ) (ws : List Witness) → All (λ k. k < length instances) ks
    → ((k : ℕ) (w : Witness) → k < length instances → holds k w ≡ true → right (derived_instance instances k) w ≡ true) → pointwise holds ks ws ≡ true
    → pointwise right (filter (has_instance listed) (map (derived_instance instances) ks)) (marks_kept listed (map (derived_instance instances) ks) ws) ≡ true
kept_all listed instances holds right [] [] within step h = refl
kept_all listed instances holds right [] (w ∷ ws) within step h = refl
kept_all listed instances holds right (k ∷ ks) [] within step h = absurd (true≢false (sym h))
kept_all listed instances holds right (k ∷ ks) (w ∷ ws) within step h =
    let p = and_parts (holds k w) (pointwise holds ks ws) h in
    by (has_instance listed (derived_instance instances k)) (step k w (within 0 k (omega arith)) p.0) (kept_all listed instances holds right ks ws (λ j x e. within (suc j) x (omega (arith, e))) step p.1)
  where
    by : (b : Bool) → right (derived_instance instances k) w ≡ true
        → pointwise right (filter (has_instance listed) (map (derived_instance instances) ks)) (marks_kept listed (map (derived_instance instances) ks) ws) ≡ true
        → pointwise right (if b then derived_instance instances k ∷ filter (has_instance listed) (map (derived_instance instances) ks) else filter (has_instance listed) (map (derived_instance instances) ks))
        (if b then w ∷ marks_kept listed (map (derived_instance instances) ks) ws else marks_kept listed (map (derived_instance instances) ks) ws) ≡ true
    by true here ih = and_from _ _ here ih
    by false here ih = ih

-- ---- a witness is a mark

module _ (study : Question) (instances : List Cited) (present : list_all (is_present study) instances ≡ true) where
  abbrev daxioms : List Titled
  daxioms = axioms_from study 0 instances

  closed_true : (table : List ℕ) (c : Cited) (o : Option Titled) → is_true_at study.size table (closed_at o (option_map_or (λ (a : Titled). instance_values study.size a.sentence c.number) o [])) [] ≡ true
      → option_map_or (λ (a : Titled). is_instance_true study.size table a.sentence c.number) o false ≡ true
  closed_true table c None h = absurd (true≢false (sym h))
  closed_true table c (Some a) h = sym ((is_instance study.size a c.number).true_of table) ∙ h

  true_back : (table : List ℕ) (k : ℕ) → k < length instances → is_axiom_true study.size table (slice_get daxioms k) ≡ true → is_true_of study table (derived_instance instances k) ≡ true
  true_back table k lt h =
      let there = derived_get study instances k (derived_instance instances k) (instance_there instances k lt) in
      closed_true table (derived_instance instances k) (slice_get study.axioms (derived_instance instances k).«axiom») (subst (λ (o : Option Titled). is_axiom_true study.size table o ≡ true) there h)

  -- the others of a list of instances are true where the others of the core are
  others_true : (table : List ℕ) (t : Cited → Bool) (k : ℕ) (ks : List ℕ) → All (λ j. j < length instances) ks
      → list_all (λ j. is_axiom_true study.size table (slice_get daxioms j)) (filter (λ j. not (j == k)) ks) ≡ true
      → list_all (is_true_of study table) (filter (λ d. not (same_instance d (derived_instance instances k))) (filter t (map (derived_instance instances) ks))) ≡ true
  others_true table t k [] within h = refl
  others_true table t k (j ∷ ks) within h = by (j == k) refl (t (derived_instance instances j)) h (others_true table t k ks (λ i x e. within (suc i) x (omega (arith, e))))
    where
      rest : List Cited
      rest = filter t (map (derived_instance instances) ks)

      IsRest : Type 0
      IsRest = list_all (is_true_of study table) (filter (λ d. not (same_instance d (derived_instance instances k))) rest) ≡ true

      put : (c : Bool) → (c ≡ false → is_true_of study table (derived_instance instances j) ≡ true) → IsRest
          → list_all (is_true_of study table) (if not c then derived_instance instances j ∷ filter (λ d. not (same_instance d (derived_instance instances k))) rest else filter (λ d. not (same_instance d (derived_instance instances k))) rest) ≡ true
      put true here there = there
      put false here there = and_from _ _ (here refl) there

      keep : (b : Bool) → (same_instance (derived_instance instances j) (derived_instance instances k) ≡ false → is_true_of study table (derived_instance instances j) ≡ true) → IsRest
          → list_all (is_true_of study table) (filter (λ d. not (same_instance d (derived_instance instances k))) (if b then derived_instance instances j ∷ rest else rest)) ≡ true
      keep true here there = put (same_instance (derived_instance instances j) (derived_instance instances k)) here there
      keep false here there = there

      by : (e : Bool) → (j == k) ≡ e → (b : Bool)
          → list_all (λ i. is_axiom_true study.size table (slice_get daxioms i)) (if not e then j ∷ filter (λ i. not (i == k)) ks else filter (λ i. not (i == k)) ks) ≡ true
          → (list_all (λ i. is_axiom_true study.size table (slice_get daxioms i)) (filter (λ i. not (i == k)) ks) ≡ true → IsRest)
          → list_all (is_true_of study table) (filter (λ d. not (same_instance d (derived_instance instances k))) (if b then derived_instance instances j ∷ rest else rest)) ≡ true
      by true is b g ih =
          let here = ap (derived_instance instances) (eqb-true j k is) in
          keep b (λ differ. absurd (true≢false (sym (ap (λ (x : Cited). same_instance x (derived_instance instances k)) here ∙ is_same (derived_instance instances k) (derived_instance instances k) refl) ∙ differ))) (ih g)
      by false is b g ih =
          let p = and_parts (is_axiom_true study.size table (slice_get daxioms j)) (list_all (λ i. is_axiom_true study.size table (slice_get daxioms i)) (filter (λ i. not (i == k)) ks)) g in
          keep b (λ differ. true_back table j (within 0 j (omega arith)) p.0) (ih p.1)

  mark_back : (listed : List Cited) (core : List ℕ) → All (λ j. j < length instances) core → listed ≡ filter (has_instance listed) (map (derived_instance instances) core)
      → (k : ℕ) (w : Witness) → is_witness study.size daxioms study.conflicts core k w ≡ true → is_mark study listed (derived_instance instances k) w ≡ true
  mark_back listed core within same k (Rule table) h =
      let p = and_parts (is_rule study.size table) (list_all (λ j. is_axiom_true study.size table (slice_get daxioms j)) (filter (λ c. not (c == k)) core)) h in
      and_from _ _ p.0 (subst (λ (xs : List Cited). list_all (is_true_of study table) (others_than xs (derived_instance instances k)) ≡ true) (sym same) (others_true table (has_instance listed) k core within p.1))
  mark_back listed core within same k (Open limit) h = h

  pub marks_right : (listed : List Cited) (core : List ℕ) (ws : List Witness) → All (λ j. j < length instances) core → listed ≡ filter (has_instance listed) (map (derived_instance instances) core)
      → pointwise (is_witness study.size daxioms study.conflicts core) core ws ≡ true
      → pointwise (is_mark study listed) listed (marks_kept listed (map (derived_instance instances) core) ws) ≡ true
  marks_right listed core ws within same h =
      subst (λ (xs : List Cited). pointwise (is_mark study listed) xs (marks_kept listed (map (derived_instance instances) core) ws) ≡ true) (sym same)
      (kept_all listed instances (is_witness study.size daxioms study.conflicts core) (is_mark study listed) core ws within (λ k w lt e. mark_back listed core within same k w e) h)

-- ---- the places of a list that rises

above_at : (b : ℕ) (xs : List Cited) (j : ℕ) (c : Cited) → RisesFrom b (map code_of xs) → slice_get xs j ≡ Some c → b < code_of c
above_at b [] j c h e = absurd cc
above_at b (x ∷ xs) zero c h e = let same : x ≡ c = cc in subst (λ (y : Cited). b < code_of y) same h.0
above_at b (x ∷ xs) (suc j) c h e = let l = above_at (code_of x) xs j c h.1 e in omega (arith, h.0, l)

one_place : (b : ℕ) (xs : List Cited) (j k : ℕ) (c : Cited) → RisesFrom b (map code_of xs) → slice_get xs j ≡ Some c → slice_get xs k ≡ Some c → j ≡ k
one_place b [] j k c h e f = absurd cc
one_place b (x ∷ xs) zero zero c h e f = refl
one_place b (x ∷ xs) zero (suc k) c h e f =
    let same : x ≡ c = cc in let l = subst (λ (y : Cited). code_of x < code_of y) (sym same) (above_at (code_of x) xs k c h.1 f) in absurd (omega (arith, l))
one_place b (x ∷ xs) (suc j) zero c h e f =
    let same : x ≡ c = cc in let l = subst (λ (y : Cited). code_of x < code_of y) (sym same) (above_at (code_of x) xs j c h.1 e) in absurd (omega (arith, l))
one_place b (x ∷ xs) (suc j) (suc k) c h e f = ap suc (one_place (code_of x) xs j k c h.1 e f)

rises_at : (b : ℕ) (xs : List Cited) (k j : ℕ) → RisesFrom b (map code_of xs) → k < j → j < length xs → code_of (derived_instance xs k) < code_of (derived_instance xs j)
rises_at b [] k j h lt in_j = absurd (omega (arith, in_j))
rises_at b (x ∷ xs) k zero h lt in_j = absurd (omega (arith, lt))
rises_at b (x ∷ xs) zero (suc j) h lt in_j = above_at (code_of x) xs j (derived_instance xs j) h.1 (instance_there xs j (omega (arith, in_j)))
rises_at b (x ∷ xs) (suc k) (suc j) h lt in_j = rises_at (code_of x) xs k j h.1 (omega (arith, lt)) (omega (arith, in_j))

-- ---- the evidence of the marks

module _ (study : Question) (instances : List Cited) (rising : AreRisingInstances instances) where
  apart : (c : Cited) (k p : ℕ) (o : Option Cited) → slice_get instances k ≡ Some c → slice_get instances p ≡ o → (p == k) ≡ false → option_map_or (λ d. same_instance c d) o false ≡ false
  apart c k p None e f differ = refl
  apart c k p (Some d) e f differ = by (same_instance c d) refl
    where
      by : (b : Bool) → same_instance c d ≡ b → same_instance c d ≡ false
      by true is = absurd (true≢false (sym (eq-eqb p k (one_place 0 instances p k c rising (f ∙ ap (λ (x : Cited). Some x) (sym (same_is c d is))) e)) ∙ differ))
      by false is = is

  not_chosen : (c : Cited) (k : ℕ) (ps : List ℕ) → slice_get instances k ≡ Some c → has_place ps k ≡ false → list_any (λ j. option_map_or (λ d. same_instance c d) (slice_get instances j) false) ps ≡ false
  not_chosen c k [] e h = refl
  not_chosen c k (p ∷ ps) e h =
      let parts = or_parts (p == k) (has_place ps k) h in
      ap₂ (λ (x y : Bool). x || y) (apart c k p (slice_get instances p) e refl parts.0) (not_chosen c k ps e parts.1)

  chosen_there : (d : Cited) (k : ℕ) (ps : List ℕ) → slice_get instances k ≡ Some d → has_place ps k ≡ true → list_any (λ j. option_map_or (λ x. same_instance d x) (slice_get instances j) false) ps ≡ true
  chosen_there d k [] e h = absurd (true≢false (sym h))
  chosen_there d k (p ∷ ps) e h = elim (or_cases (p == k) (has_place ps k) h) [
    | inl s ↦
        or_left (option_map_or (λ x. same_instance d x) (slice_get instances p) false) (list_any (λ j. option_map_or (λ x. same_instance d x) (slice_get instances j) false) ps)
        (ap (λ (o : Option Cited). option_map_or (λ x. same_instance d x) o false) (ap (slice_get instances) (eqb-true p k s) ∙ e) ∙ is_same d d refl)
    | inr s ↦ or_right (option_map_or (λ x. same_instance d x) (slice_get instances p) false) (list_any (λ j. option_map_or (λ x. same_instance d x) (slice_get instances j) false) ps) (chosen_there d k ps e s)
  ]

  rest_there : (log : SearchLog) (k : ℕ) (t : Cited → Bool) (ks : List ℕ) → All (λ j. j < length instances) ks → list_all (λ c. c == k || has_place log.chosen c) ks ≡ true
      → list_all (λ d. same_instance d (derived_instance instances k) || chose instances log d) (filter t (map (derived_instance instances) ks)) ≡ true
  rest_there log k t [] within h = refl
  rest_there log k t (j ∷ ks) within h =
      let p = and_parts (j == k || has_place log.chosen j) (list_all (λ c. c == k || has_place log.chosen c) ks) h in
      by (t (derived_instance instances j)) (here (or_cases (j == k) (has_place log.chosen j) p.0)) (rest_there log k t ks (λ i x e. within (suc i) x (omega (arith, e))) p.1)
    where
      here : ((j == k) ≡ true) ⊎ (has_place log.chosen j ≡ true) → (same_instance (derived_instance instances j) (derived_instance instances k) || chose instances log (derived_instance instances j)) ≡ true
      here (inl s) = or_left (same_instance (derived_instance instances j) (derived_instance instances k)) (chose instances log (derived_instance instances j)) (ap (λ (i : ℕ). same_instance (derived_instance instances i) (derived_instance instances k)) (eqb-true j k s) ∙ is_same (derived_instance instances k) (derived_instance instances k) refl)
      here (inr s) = or_right (same_instance (derived_instance instances j) (derived_instance instances k)) (chose instances log (derived_instance instances j)) (chosen_there (derived_instance instances j) j log.chosen (instance_there instances j (within 0 j (omega arith))) s)

      by : (b : Bool) → (same_instance (derived_instance instances j) (derived_instance instances k) || chose instances log (derived_instance instances j)) ≡ true
          → list_all (λ d. same_instance d (derived_instance instances k) || chose instances log d) (filter t (map (derived_instance instances) ks)) ≡ true
          → list_all (λ d. same_instance d (derived_instance instances k) || chose instances log d) (if b then derived_instance instances j ∷ filter t (map (derived_instance instances) ks) else filter t (map (derived_instance instances) ks)) ≡ true
      by true e ih = and_from _ _ e ih
      by false e ih = ih

  none_left : (logs : List SearchLog) (listed cs : List Cited) → HaveMarkEvidence logs instances listed cs []
  none_left logs listed [] = tt
  none_left logs listed (c ∷ cs) = tt

  module _ (logs : List SearchLog) (listed : List Cited) (core : List ℕ) (inside : All (λ j. j < length instances) core) (same : listed ≡ filter (has_instance listed) (map (derived_instance instances) core)) where
    log_back : (k : ℕ) → k < length instances → (log : SearchLog) → IsWithout study core k log → IsWithoutInstance instances listed (derived_instance instances k) log
    log_back k lt log w = record {
      lacks = not_chosen (derived_instance instances k) k log.chosen (instance_there instances k lt) w.lacks;
      has_rest = subst (λ (xs : List Cited). list_all (λ d. same_instance d (derived_instance instances k) || chose instances log d) xs ≡ true) (sym same) (rest_there log k (has_instance listed) core inside w.has_rest);
    }

    one_back : (k : ℕ) (w : Witness) → k < length instances → HasEvidence study logs core k w → HasMarkEvidence logs instances listed (derived_instance instances k) w
    one_back k (Rule table) lt h = tt
    one_back k (Open limit) lt h = some_map (IsWithout study core k) (IsWithoutInstance instances listed (derived_instance instances k)) logs (log_back k lt) h

    all_back : (ks : List ℕ) (ws : List Witness) → All (λ j. j < length instances) ks → HaveEvidence study logs core ks ws
        → HaveMarkEvidence logs instances listed (filter (has_instance listed) (map (derived_instance instances) ks)) (marks_kept listed (map (derived_instance instances) ks) ws)
    all_back [] ws within h = tt
    all_back (k ∷ ks) [] within h = none_left logs listed (filter (has_instance listed) (map (derived_instance instances) (k ∷ ks)))
    all_back (k ∷ ks) (w ∷ ws) within h = by (has_instance listed (derived_instance instances k)) (one_back k w (within 0 k (omega arith)) h.0) (all_back ks ws (λ i x e. within (suc i) x (omega (arith, e))) h.1)
      where
        by : (b : Bool) → HasMarkEvidence logs instances listed (derived_instance instances k) w
            → HaveMarkEvidence logs instances listed (filter (has_instance listed) (map (derived_instance instances) ks)) (marks_kept listed (map (derived_instance instances) ks) ws)
            → HaveMarkEvidence logs instances listed (if b then derived_instance instances k ∷ filter (has_instance listed) (map (derived_instance instances) ks) else filter (has_instance listed) (map (derived_instance instances) ks))
            (if b then w ∷ marks_kept listed (map (derived_instance instances) ks) ws else marks_kept listed (map (derived_instance instances) ks) ws)
        by true here ih = (here, ih)
        by false here ih = ih

    pub evidence_right : (ws : List Witness) → HaveEvidence study logs core core ws → HaveMarkEvidence logs instances listed listed (marks_kept listed (map (derived_instance instances) core) ws)
    evidence_right ws h = subst (λ (xs : List Cited). HaveMarkEvidence logs instances listed xs (marks_kept listed (map (derived_instance instances) core) ws)) (sym same) (all_back core ws inside h)

-- ---- the instances that are told are those of the core that are told

in_any : (xs : List Cited) (c : Cited) → IsIn xs c → has_instance xs c ≡ true
in_any [] c i = absurd i
in_any (x ∷ xs) c (inl e) = or_left (same_instance c x) (has_instance xs c) (ap (same_instance c) e ∙ is_same c c refl)
in_any (x ∷ xs) c (inr i) = or_right (same_instance c x) (has_instance xs c) (in_any xs c i)

any_in : (xs : List Cited) (c : Cited) → has_instance xs c ≡ true → IsIn xs c
any_in [] c h = absurd (true≢false (sym h))
any_in (x ∷ xs) c h = elim (or_cases (same_instance c x) (has_instance xs c) h) [
  | inl e ↦ inl (sym (same_is c x e))
  | inr e ↦ inr (any_in xs c e)
]

place_in : (ks : List ℕ) (k : ℕ) → list_any (λ c. c == k) ks ≡ true → IsIn ks k
place_in [] k h = absurd (true≢false (sym h))
place_in (x ∷ ks) k h = elim (or_cases (x == k) (list_any (λ c. c == k) ks) h) [
  | inl e ↦ inl (eqb-true x k e)
  | inr e ↦ inr (place_in ks k e)
]

core_by : (from end : ℕ) (core : List ℕ) → is_core_from from end core ≡ true → AllByRecursion (λ j. j < end) core
core_by from end [] h = tt
core_by from end (k ∷ core) h =
    let p = and_parts (not (nat_lt k from) && nat_lt k end) (is_core_from (k + 1) end core) h in
    let q = and_parts (not (nat_lt k from)) (nat_lt k end) p.0 in
    (ltb-true k end q.1, core_by (k + 1) end core p.1)

pub core_within : (end : ℕ) (core : List ℕ) → is_core_from 0 end core ≡ true → All (λ j. j < end) core
core_within end core h = All-from_recursion (λ j. j < end) core (core_by 0 end core h)

core_rises : (instances : List Cited) (b from : ℕ) (core : List ℕ) → AreRisingInstances instances → ((k : ℕ) → from ≤ k → k < length instances → b < code_of (derived_instance instances k)) → is_core_from from (length instances) core ≡ true
    → RisesFrom b (map code_of (map (derived_instance instances) core))
core_rises instances b from [] rising over h = record {}
core_rises instances b from (k ∷ core) rising over h =
    let p = and_parts (not (nat_lt k from) && nat_lt k (length instances)) (is_core_from (k + 1) (length instances) core) h in
    let q = and_parts (not (nat_lt k from)) (nat_lt k (length instances)) p.0 in
    let lt = ltb-true k (length instances) q.1 in
    (over k (ltb-false k from (not-true _ q.0)) lt, core_rises instances (code_of (derived_instance instances k)) (k + 1) core rising (λ j le in_j. rises_at 0 instances k j rising (omega (arith, le)) in_j) p.1)

all_there : (study : Question) (instances : List Cited) (ks : List ℕ) → list_all (is_present study) instances ≡ true → AllByRecursion (λ j. j < length instances) ks → list_all (is_present study) (map (derived_instance instances) ks) ≡ true
all_there study instances [] present h = refl
all_there study instances (k ∷ ks) present h = and_from _ _ (all_get (is_present study) instances k (derived_instance instances k) present (instance_there instances k h.0)) (all_there study instances ks present h.1)

module _ (study : Question) (taken : IsStudy study) (instances : List Cited) (present : list_all (is_present study) instances ≡ true) (rising : AreRisingInstances instances) where
  pub told_same : (size : Extent) (axioms : List Titled) (core : List ℕ) (story : List Lemma) → is_core_from 0 (length instances) core ≡ true → is_story size axioms core story ≡ true
      → instances_of study (story_named study instances story) ≡ filter (has_instance (instances_of study (story_named study instances story))) (map (derived_instance instances) core)
  told_same size axioms core story right accepted = rising_lists told kept (filter_small test (all_instances study) (all_small study (counts_few study taken)))
      (filter_small (has_instance told) cores (present_small study taken cores (all_there study instances core present (core_by 0 (length instances) core right))))
      (filter_rises test 0 (all_instances study) (all_rise study (counts_few study taken)))
      (filter_rises (has_instance told) 0 cores (core_rises instances 0 0 core rising (λ k le lt. omega arith) right))
      (λ n. same_tests (includes (map code_of told) n) (includes (map code_of kept) n) (forth n) (back n))
    where
      test : Cited → Bool
      test = is_told study (story_named study instances story)

      told : List Cited
      told = instances_of study (story_named study instances story)

      cores : List Cited
      cores = map (derived_instance instances) core

      kept : List Cited
      kept = filter (has_instance told) cores

      forth : (n : ℕ) → includes (map code_of told) n ≡ true → includes (map code_of kept) n ≡ true
      forth n h =
          let r = in_has told n h in
          let f = in_filter test (all_instances study) r.0 r.1 in
          let c = told_in_core study instances present size axioms core r.0 story accepted f.1 in
          let i = subst (IsIn cores) (in_is instances c.0 r.0 c.2) (map_in (derived_instance instances) core c.0 (place_in core c.0 c.1)) in
          subst (λ (m : ℕ). includes (map code_of kept) m ≡ true) r.2 (has_in kept r.0 (filter_in (has_instance told) cores r.0 i (in_any told r.0 r.1)))

      back : (n : ℕ) → includes (map code_of kept) n ≡ true → includes (map code_of told) n ≡ true
      back n h =
          let r = in_has kept n h in
          let f = in_filter (has_instance told) cores r.0 r.1 in
          subst (λ (m : ℕ). includes (map code_of told) m ≡ true) r.2 (has_in told r.0 (any_in told r.0 f.1))

-- ---- one more mark

kept_at : (listed instances : List Cited) (core : List ℕ) (ws : List Witness) (k j : ℕ) (w : Witness) (b : Bool) → slice_get core k ≡ Some j → slice_get ws k ≡ Some w → has_instance listed (derived_instance instances j) ≡ b
    → marks_kept listed (map (derived_instance instances) (take (suc k) core)) (take (suc k) ws)
    ≡ marks_kept listed (map (derived_instance instances) (take k core)) (take k ws) ++ (if b then w ∷ [] else [])
kept_at listed instances [] ws k j w b e f h = absurd cc
kept_at listed instances (x ∷ core) [] k j w b e f h = absurd cc
kept_at listed instances (x ∷ core) (y ∷ ws) zero j w b e f h =
    let same : x ≡ j = cc in
    let mark : y ≡ w = cc in
    ap (λ (t : Bool). if t then y ∷ [] else []) (ap (λ (i : ℕ). has_instance listed (derived_instance instances i)) same ∙ h) ∙ ap (λ (z : Witness). if b then z ∷ [] else []) mark
kept_at listed instances (x ∷ core) (y ∷ ws) (suc k) j w b e f h = by (has_instance listed (derived_instance instances x)) (kept_at listed instances core ws k j w b e f h)
  where
    by : (t : Bool)
        → marks_kept listed (map (derived_instance instances) (take (suc k) core)) (take (suc k) ws) ≡ marks_kept listed (map (derived_instance instances) (take k core)) (take k ws) ++ (if b then w ∷ [] else [])
        → (if t then y ∷ marks_kept listed (map (derived_instance instances) (take (suc k) core)) (take (suc k) ws) else marks_kept listed (map (derived_instance instances) (take (suc k) core)) (take (suc k) ws))
        ≡ (if t then y ∷ marks_kept listed (map (derived_instance instances) (take k core)) (take k ws) else marks_kept listed (map (derived_instance instances) (take k core)) (take k ws)) ++ (if b then w ∷ [] else [])
    by true ih = ap (λ (zs : List Witness). y ∷ zs) ih
    by false ih = ih

pub kept_more : (listed instances : List Cited) (core : List ℕ) (ws marks new : List Witness) (k j : ℕ) (w : Witness) (b : Bool) → marks ≡ marks_kept listed (map (derived_instance instances) (take k core)) (take k ws)
    → slice_get core k ≡ Some j → slice_get ws k ≡ Some w → has_instance listed (derived_instance instances j) ≡ b → new ≡ marks ++ (if b then w ∷ [] else [])
    → new ≡ marks_kept listed (map (derived_instance instances) (take (k + 1) core)) (take (k + 1) ws)
kept_more listed instances core ws marks new k j w b before e f h is =
    let next : suc k ≡ k + 1 = omega arith in
    is ∙ ap (λ (zs : List Witness). zs ++ (if b then w ∷ [] else [])) before ∙ sym (kept_at listed instances core ws k j w b e f h)
    ∙ ap (λ (n : ℕ). marks_kept listed (map (derived_instance instances) (take n core)) (take n ws)) next

-- there is a mark where there is an instance
pub mark_there : (ws : List Witness) (n k : ℕ) → length ws ≡ n → k < n → (w : Witness) × (slice_get ws k ≡ Some w)
mark_there [] n k e lt = absurd (omega (arith, e, lt))
mark_there (w ∷ ws) n zero e lt = (w, refl)
mark_there (w ∷ ws) n (suc k) e lt = mark_there ws (length ws) k refl (omega (arith, e, lt))
