-- The instances that a story cites have the numbers of its reasons.
use mathlib.Core.Bool.{or-false}
use Rattle.std.proofs.Common.{◌≡◌, refl, sym, ◌∙◌, ap, ap₂, subst, ℕ, zero, suc, ◌+◌, ◌*◌, ◌<◌, Bool, true, false, ◌||◌, nat_eq, inl, inr, List, [], ◌∷◌, ◌++◌, map, filter, length, arith, Option, Some, None, true≢false, eq-eqb, eqb-true, ltb-true, lt-ltb, All, ◌≤◌, append-nil}
use Rattle.std.specs.Prelude.{◌==◌, if◌then◌else◌, nat_lt, slice_get}
use Rattle.std.specs.Cmp.Lexicographic.{pointwise}
use Rattle.std.specs.List.{AllByRecursion, flat_map, list_all, list_any}
use Rattle.std.specs.Option.{option_map_or}
use Rattle.std.proofs.lemmas.Bool.{and_parts, and_from, or_cases, or_left, or_right}
use Rattle.std.proofs.lemmas.List.Elements.{All-from_recursion, filter-append}
use Rattle.std.proofs.lemmas.List.Folds.{list_any-append}
use Rattle.vocab.specs.Limits.{bases_of, instance_count}
use Rattle.vocab.specs.Size.{sort_count}
use Rattle.vocab.specs.Study.{Question, IsStudy}
use Rattle.vocab.specs.Titled.{Titled}
use Rattle.vocab.proofs.Ranges.{below_more}
use Rattle.meaning.specs.declared.stories.Reason.{Reason}
use Rattle.meaning.specs.declared.stories.Reason.TheVariants.{Axiom as ByAxiom, Outcome as ByOutcome, Lemma as ByLemma}
use Rattle.meaning.specs.declared.stories.Lemma.{Lemma}
use Rattle.meaning.specs.declared.stories.StoryStep.{StoryStep}
use Rattle.meaning.proofs.TestLaws.{list_any-map}
use Rattle.meaning.specs.Space.{below, number_of}
use Rattle.meaning.proofs.DigitLaws.{are_one_to_one}
use Rattle.meaning.proofs.InstanceLaws.{same_tests}
use Rattle.verdicts.specs.Lines.{sorts_of}
use Rattle.verdicts.proofs.WordLaws.{in_below}
use Rattle.grounding.specs.Rising.{includes}
use Rattle.lists.proofs.Members.{map_in, flat_map_in, in_filter, filter_in, IsIn}
use Rattle.sharp_verdicts.specs.declared.instances.Cited.{Cited}
use Rattle.sharp_verdicts.specs.Instances.{cites_axiom, is_axiom_told, reasons_of, count_at, number_at, is_present, cites, is_told, all_instances, instances_of}
use Rattle.instance_stories.specs.Codes.{code_of, AreRisingInstances, HaveAxiomRoom}
use Rattle.instance_stories.proofs.AllInstances.{has-append, all_rise, all_small, filter_rises, filter_small, counts_few, rising_lists}
use Rattle.told_instances.specs.Told.{codes_in, codes_by, codes_told, names_instance, has_reasons}
use Rattle.meaning.proofs.RankingLaws.{All-append}
use Rattle.lists.proofs.TestLaws.{any_weaker}

-- ---- numbers that are in a list

pub has_in : (cs : List Cited) (c : Cited) → IsIn cs c → includes (map code_of cs) (code_of c) ≡ true
has_in [] c i = absurd i
has_in (d ∷ cs) c (inl e) = or_left _ _ (eq-eqb (code_of c) (code_of d) (ap code_of (sym e)))
has_in (d ∷ cs) c (inr i) = or_right (nat_eq (code_of c) (code_of d)) _ (has_in cs c i)

pub in_has : (cs : List Cited) (k : ℕ) → includes (map code_of cs) k ≡ true → (c : Cited) × IsIn cs c × (code_of c ≡ k)
in_has [] k h = absurd cc
in_has (d ∷ cs) k h = elim (or_cases (nat_eq k (code_of d)) (includes (map code_of cs) k) h) [
  | inl e ↦ (d, inl refl, sym (eqb-true k (code_of d) e))
  | inr e ↦ let r = in_has cs k e in (r.0, inr r.1, r.2)
]

has_flat : {X : Type 0} (f : X → List ℕ) (xs : List X) (k : ℕ) → includes (flat_map f xs) k ≡ list_any (λ x. includes (f x) k) xs
has_flat f [] k = refl
has_flat f (x ∷ xs) k = has-append (f x) (flat_map f xs) k ∙ ap (λ b. includes (f x) k || b) (has_flat f xs k)

pub any_found : {X : Type 0} (t u : X → Bool) (xs : List X) → list_any t xs ≡ true → list_all u xs ≡ true → (x : X) × IsIn xs x × (t x ≡ true) × (u x ≡ true)
any_found t u [] h k = absurd cc
any_found t u (x ∷ xs) h k =
    let e = and_parts (u x) (list_all u xs) k in
    elim (or_cases (t x) (list_any t xs) h) [
      | inl f ↦ (x, inl refl, f, e.0)
      | inr f ↦ let r = any_found t u xs f e.1 in (r.0, inr r.1, r.2, r.3)
    ]

pub any_in : {X : Type 0} (t : X → Bool) (xs : List X) (x : X) → IsIn xs x → t x ≡ true → list_any t xs ≡ true
any_in t [] x i h = absurd i
any_in t (y ∷ xs) x (inl e) h = or_left _ _ (ap t e ∙ h)
any_in t (y ∷ xs) x (inr i) h = or_right (t y) _ (any_in t xs x i h)

module _ (study : Question) where
  abbrev cited_at : ℕ → List ℕ → Cited
  cited_at k values = record { «axiom» = k; number = number_at study k values }

  -- ---- what is cited has its number

  reason_code : (c : Cited) (r : Reason) → cites study c r ≡ true → includes (codes_in study r) (code_of c) ≡ true
  reason_code c (ByAxiom k values) h =
      let e = and_parts (c.«axiom» == k) (c.number == number_at study k values) h in
      let a = eqb-true c.«axiom» k e.0 in
      let n = eqb-true c.number (number_at study k values) e.1 in
      or_left _ _ (eq-eqb (code_of c) (code_of (cited_at k values)) (ap₂ (λ (x y : ℕ). (x + 1) * 4294967296 + y) a n))
  reason_code c (ByOutcome p) h = absurd cc
  reason_code c (ByLemma j) h = absurd cc

  told_code : (story : List Lemma) (c : Cited) → is_told study story c ≡ true → includes (codes_told study story) (code_of c) ≡ true
  told_code story c h =
      has_flat (λ (lemma : Lemma). codes_by study (reasons_of lemma)) story (code_of c)
      ∙ any_weaker (λ (lemma : Lemma). list_any (cites study c) (reasons_of lemma)) (λ (lemma : Lemma). includes (codes_by study (reasons_of lemma)) (code_of c))
      (λ lemma e. has_flat (codes_in study) (reasons_of lemma) (code_of c) ∙ any_weaker (cites study c) (λ r. includes (codes_in study r) (code_of c)) (reason_code c) (reasons_of lemma) e) story h

  -- ---- and what has a number is cited

  -- the instance of a reason in range is there
  present_by : (k : ℕ) (values : List ℕ) (o : Option Titled) → slice_get study.axioms k ≡ o → pointwise nat_lt values (map (sort_count study.size) (sorts_of o)) ≡ true → nat_lt k (length study.axioms) ≡ true
      → nat_lt (option_map_or (λ (a : Titled). number_of (bases_of study.size a.sentence) values) o 0) (option_map_or (λ (a : Titled). instance_count study.size a.sentence) o 0) ≡ true
  present_by k values None e h lt = absurd (let w = ltb-true k (length study.axioms) lt in none_past study.axioms k e w)
    where
      none_past : (xs : List Titled) (j : ℕ) → slice_get xs j ≡ None → j < length xs → ⊥
      none_past [] j f g = omega (arith, g)
      none_past (x ∷ xs) zero f g = cc
      none_past (x ∷ xs) (suc j) f g = none_past xs j f (omega (arith, g))
  present_by k values (Some a) e h lt =
      lt-ltb (number_of (bases_of study.size a.sentence) values) (instance_count study.size a.sentence) ((are_one_to_one (bases_of study.size a.sentence)).number values h)

  pub reason_present : (k : ℕ) (values : List ℕ) → names_instance study (ByAxiom k values) ≡ true → is_present study (cited_at k values) ≡ true
  reason_present k values h =
      let e = and_parts (nat_lt k (length study.axioms)) (pointwise nat_lt values (map (sort_count study.size) (sorts_of (slice_get study.axioms k)))) h in
      and_from _ _ e.0 (present_by k values (slice_get study.axioms k) refl e.1 e.0)

  -- an instance that is there and that a reason cites, by its number
  abbrev IsBy : Reason → ℕ → Type 0
  IsBy r n = (c : Cited) × (is_present study c ≡ true) × (cites study c r ≡ true) × (code_of c ≡ n)

  code_reason : (r : Reason) (n : ℕ) → includes (codes_in study r) n ≡ true → names_instance study r ≡ true → IsBy r n
  code_reason (ByAxiom k values) n h is =
      elim (or_cases (nat_eq n (code_of (cited_at k values))) false h) [
        | inl e ↦ (cited_at k values, reason_present k values is, and_from _ _ (eq-eqb k k refl) (eq-eqb (number_at study k values) (number_at study k values) refl), sym (eqb-true n (code_of (cited_at k values)) e))
        | inr e ↦ absurd (true≢false (sym e))
      ]
  code_reason (ByOutcome p) n h is = absurd cc
  code_reason (ByLemma j) n h is = absurd cc

  code_told : (story : List Lemma) (n : ℕ) → includes (codes_told study story) n ≡ true → has_reasons study story ≡ true → (c : Cited) × (is_present study c ≡ true) × (is_told study story c ≡ true) × (code_of c ≡ n)
  code_told story n h range =
      let l = any_found (λ (lemma : Lemma). includes (codes_by study (reasons_of lemma)) n) (λ (lemma : Lemma). list_all (names_instance study) (reasons_of lemma)) story (sym (has_flat (λ (lemma : Lemma). codes_by study (reasons_of lemma)) story n) ∙ h) range in
      let r = any_found (λ r. includes (codes_in study r) n) (names_instance study) (reasons_of l.0) (sym (has_flat (codes_in study) (reasons_of l.0) n) ∙ l.2) l.3 in
      let c = code_reason r.0 n r.2 r.3 in
      (c.0, c.1, any_in (λ (lemma : Lemma). list_any (cites study c.0) (reasons_of lemma)) story l.0 l.1 (any_in (cites study c.0) (reasons_of l.0) r.0 r.1 c.2), c.3)

  -- ---- together

  pub all_in : (c : Cited) → is_present study c ≡ true → IsIn (all_instances study) c
  all_in c h =
      let e = and_parts (nat_lt c.«axiom» (length study.axioms)) (nat_lt c.number (count_at study c.«axiom»)) h in
      flat_map_in (λ k. map (λ n. record { «axiom» = k; number = n }) (below (count_at study k))) (below (length study.axioms)) c.«axiom» c
      (in_below (length study.axioms) c.«axiom» (ltb-true c.«axiom» (length study.axioms) e.0))
      (map_in (λ n. record { «axiom» = c.«axiom»; number = n }) (below (count_at study c.«axiom»)) c.number (in_below (count_at study c.«axiom») c.number (ltb-true c.number (count_at study c.«axiom») e.1)))

  told_has : (story : List Lemma) (n : ℕ) → has_reasons study story ≡ true → includes (map code_of (instances_of study story)) n ≡ includes (codes_told study story) n
  told_has story n range = same_tests _ _
      (λ h.
      let r = in_has (instances_of study story) n h in
      let f = in_filter (is_told study story) (all_instances study) r.0 r.1 in
      subst (λ (m : ℕ). includes (codes_told study story) m ≡ true) r.2 (told_code story r.0 f.1))
      (λ h.
      let c = code_told story n h range in
      subst (λ (m : ℕ). includes (map code_of (instances_of study story)) m ≡ true) c.3 (has_in (instances_of study story) c.0 (filter_in (is_told study story) (all_instances study) c.0 (all_in c.0 c.1) c.2)))

-- a rising list with the numbers of a story has the instances that it cites
pub lists_told : (study : Question) (story : List Lemma) (cs : List Cited) → IsStudy study → has_reasons study story ≡ true → HaveAxiomRoom cs → AreRisingInstances cs
    → ((n : ℕ) → includes (map code_of cs) n ≡ includes (codes_told study story) n) → cs ≡ instances_of study story
lists_told study story cs taken range small rising same =
    rising_lists cs (instances_of study story) small (filter_small (is_told study story) (all_instances study) (all_small study (counts_few study taken))) rising
    (filter_rises (is_told study story) 0 (all_instances study) (all_rise study (counts_few study taken))) (λ n. same n ∙ sym (told_has study story n range))

-- ---- the axioms of the instances that a story cites

module _ (study : Question) where
  -- who cites an instance cites its axiom
  cites_both : (k : ℕ) (c : Cited) (r : Reason) → c.«axiom» ≡ k → cites study c r ≡ true → cites_axiom k r ≡ true
  cites_both k c (ByAxiom j values) e h =
      let a = and_parts (c.«axiom» == j) (c.number == number_at study j values) h in
      eq-eqb j k (sym (eqb-true c.«axiom» j a.0) ∙ e)
  cites_both k c (ByOutcome p) e h = absurd cc
  cites_both k c (ByLemma j) e h = absurd cc

  -- and who cites an axiom, and names what there is, cites an instance of it
  abbrev IsOf : ℕ → Reason → Type 0
  IsOf k r = (c : Cited) × (is_present study c ≡ true) × (cites study c r ≡ true) × (c.«axiom» ≡ k)

  instance_by : (k : ℕ) (r : Reason) → cites_axiom k r ≡ true → names_instance study r ≡ true → IsOf k r
  instance_by k (ByAxiom j values) h is =
      (cited_at study j values, reason_present study j values is, and_from _ _ (eq-eqb j j refl) (eq-eqb (number_at study j values) (number_at study j values) refl), eqb-true j k h)
  instance_by k (ByOutcome p) h is = absurd cc
  instance_by k (ByLemma j) h is = absurd cc

  -- the axioms of the instances that a story cites are those that it cites
  pub axiom_listed : (story : List Lemma) (k : ℕ) → has_reasons study story ≡ true → list_any (λ c. c.«axiom» == k) (instances_of study story) ≡ is_axiom_told story k
  axiom_listed story k range = same_tests _ _
      (λ h.
      let c = any_found (λ (c : Cited). c.«axiom» == k) (λ (c : Cited). true) (instances_of study story) h (all_true (instances_of study story)) in
      let f = in_filter (is_told study story) (all_instances study) c.0 c.1 in
      any_weaker (λ (lemma : Lemma). list_any (cites study c.0) (reasons_of lemma)) (λ (lemma : Lemma). list_any (cites_axiom k) (reasons_of lemma))
      (λ lemma e. any_weaker (cites study c.0) (cites_axiom k) (λ r. cites_both k c.0 r (eqb-true c.0.«axiom» k c.2)) (reasons_of lemma) e) story f.1)
      (λ h.
      let l = any_found (λ (lemma : Lemma). list_any (cites_axiom k) (reasons_of lemma)) (λ (lemma : Lemma). list_all (names_instance study) (reasons_of lemma)) story h range in
      let r = any_found (cites_axiom k) (names_instance study) (reasons_of l.0) l.2 l.3 in
      let c = instance_by k r.0 r.2 r.3 in
      let told = any_in (λ (lemma : Lemma). list_any (cites study c.0) (reasons_of lemma)) story l.0 l.1 (any_in (cites study c.0) (reasons_of l.0) r.0 r.1 c.2) in
      any_in (λ (c : Cited). c.«axiom» == k) (instances_of study story) c.0 (filter_in (is_told study story) (all_instances study) c.0 (all_in study c.0 c.1) told) (eq-eqb c.0.«axiom» k c.3))
    where
      all_true : (cs : List Cited) → list_all (λ (c : Cited). true) cs ≡ true
      all_true [] = refl
      all_true (c ∷ cs) = all_true cs

-- ---- what code goes over

pub reasons_cite : (k : ℕ) (lemma : Lemma) → list_any (cites_axiom k) (reasons_of lemma) ≡ (list_any (λ step. cites_axiom k step.reason) lemma.steps || cites_axiom k lemma.last)
reasons_cite k lemma =
    list_any-append (cites_axiom k) (map (λ step. step.reason) lemma.steps) (lemma.last ∷ [])
    ∙ ap₂ (λ a b. a || b) (list_any-map (cites_axiom k) (λ (step : StoryStep). step.reason) lemma.steps) (or-false (cites_axiom k lemma.last))

pub kept_more : (t : ℕ → Bool) (k : ℕ) (core new : List ℕ) (b : Bool) → core ≡ filter t (below k) → t k ≡ b → new ≡ (if b then core ++ k ∷ [] else core) → new ≡ filter t (below (k + 1))
kept_more t k core new b e is made =
    let more : filter t (below (k + 1)) ≡ filter t (below k) ++ filter t (k ∷ []) = ap (filter t) (below_more k) ∙ filter-append t (below k) (k ∷ []) in
    made ∙ by b is ∙ sym more
  where
    by : (r : Bool) → t k ≡ r → (if r then core ++ k ∷ [] else core) ≡ filter t (below k) ++ (if t k then k ∷ [] else [])
    by true h = ap₂ (λ (xs : List ℕ) (q : Bool). xs ++ (if q then k ∷ [] else [])) e (sym h)
    by false h = e ∙ sym (append-nil (filter t (below k))) ∙ ap (λ (q : Bool). filter t (below k) ++ (if q then k ∷ [] else [])) (sym h)

-- the numbers of instances are those of no frame
codes_high : (study : Question) (rs : List Reason) → AllByRecursion (λ n. 4294967296 ≤ n) (codes_by study rs)
codes_high study [] = tt
codes_high study (ByAxiom k values ∷ rs) = (omega arith, codes_high study rs)
codes_high study (ByOutcome p ∷ rs) = codes_high study rs
codes_high study (ByLemma j ∷ rs) = codes_high study rs

told_high : (study : Question) (story : List Lemma) → AllByRecursion (λ n. 4294967296 ≤ n) (codes_told study story)
told_high study [] = tt
told_high study (lemma ∷ story) = All-append (λ n. 4294967296 ≤ n) (codes_by study (reasons_of lemma)) (codes_told study story) (codes_high study (reasons_of lemma)) (told_high study story)

pub all_high : (study : Question) (story : List Lemma) (codes : List ℕ) → codes ≡ codes_told study story → All (λ n. 4294967296 ≤ n) codes
all_high study story codes e = subst (All (λ n. 4294967296 ≤ n)) (sym e) (All-from_recursion (λ n. 4294967296 ≤ n) (codes_told study story) (told_high study story))

-- the reasons of the steps are among those of the lemma
steps_only : (t : Reason → Bool) (steps : List StoryStep) (more : List Reason) → list_all t (map (λ (step : StoryStep). step.reason) steps ++ more) ≡ true → list_all (λ (step : StoryStep). t step.reason) steps ≡ true
steps_only t [] more h = refl
steps_only t (s ∷ steps) more h = let e = and_parts (t s.reason) (list_all t (map (λ (step : StoryStep). step.reason) steps ++ more)) h in and_from _ _ e.0 (steps_only t steps more e.1)

pub steps_reasons : (study : Question) (lemma : Lemma) → list_all (names_instance study) (reasons_of lemma) ≡ true → list_all (λ (step : StoryStep). names_instance study step.reason) lemma.steps ≡ true
steps_reasons study lemma h = steps_only (names_instance study) lemma.steps (lemma.last ∷ []) h
