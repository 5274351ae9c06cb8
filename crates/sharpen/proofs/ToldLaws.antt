-- The instances that a named story cites: they are among those of the core over which it was told.
use Rattle.std.proofs.Common.{◌≡◌, refl, sym, ◌∙◌, ap, subst, ℕ, Bool, true, false, ◌&&◌, ◌==◌, inl, inr, List, [], ◌∷◌, ◌++◌, map, length, arith, Option, Some, None, true≢false, ltb-true, eqb-true, eq-eqb, not}
use Rattle.std.specs.Prelude.{nat_lt, slice_get}
use Rattle.std.specs.Cmp.Lexicographic.{pointwise}
use Rattle.std.specs.List.{list_all, list_any}
use Rattle.std.specs.Option.{option_map_or}
use Rattle.std.proofs.lemmas.Bool.{and_from, and_parts, or_cases, or_left, or_right}
use Rattle.lists.proofs.TestLaws.{all_get}
use Rattle.vocab.specs.Limits.{bases_of, instance_count}
use Rattle.vocab.specs.Size.{Extent, sort_count}
use Rattle.vocab.specs.Study.{Question}
use Rattle.vocab.specs.Titled.{Titled}
use Rattle.vocab.specs.declared.literals.Literal.{Literal}
use Rattle.meaning.specs.declared.stories.Reason.{Reason}
use Rattle.meaning.specs.declared.stories.Reason.TheVariants.{Axiom as ByAxiom, Outcome as ByOutcome, Lemma as ByLemma}
use Rattle.meaning.specs.declared.stories.StoryStep.{StoryStep}
use Rattle.meaning.specs.declared.stories.Lemma.{Lemma}
use Rattle.meaning.specs.Instances.{instance_values}
use Rattle.meaning.specs.Space.{number_of}
use Rattle.meaning.specs.Stories.{refutes, are_forced, is_instance_false, is_lemma, is_story, is_story_from, is_decided, are_new, has_literals}
use Rattle.vocab.specs.Literal.{opposite_of}
use Rattle.meaning.proofs.DigitLaws.{are_one_to_one}
use Rattle.verdicts.specs.Lines.{sorts_of}
use Rattle.sharp_verdicts.specs.declared.instances.Cited.{Cited}
use Rattle.sharp_verdicts.specs.Instances.{is_present, count_at, values_at, number_at, reasons_of, cites, cites_axiom, is_told}
use Rattle.sharp_verdicts.specs.SharpLines.{reason_at}
use Rattle.instance_stories.specs.Named.{reason_citing, named_back, step_named, lemma_named, story_named}
use Rattle.told_instances.specs.Told.{names_instance, has_reasons}

-- ---- the reasons of a named story name instances

module _ (study : Question) where
  named_at : (k n : ℕ) (o : Option Titled) → slice_get study.axioms k ≡ o → nat_lt n (option_map_or (λ (a : Titled). instance_count study.size a.sentence) o 0) ≡ true
      → pointwise nat_lt (option_map_or (λ (a : Titled). instance_values study.size a.sentence n) o []) (map (sort_count study.size) (sorts_of o)) ≡ true
  named_at k n None e lt = refl
  named_at k n (Some a) e lt = (are_one_to_one (bases_of study.size a.sentence)).digits n (ltb-true n (instance_count study.size a.sentence) lt)

  reason_names : (c : Cited) → is_present study c ≡ true → names_instance study (reason_at study c) ≡ true
  reason_names c h =
      let e = and_parts (nat_lt c.«axiom» (length study.axioms)) (nat_lt c.number (count_at study c.«axiom»)) h in
      and_from _ _ e.0 (named_at c.«axiom» c.number (slice_get study.axioms c.«axiom») refl e.1)

  number_back : (k n : ℕ) (o : Option Titled) → slice_get study.axioms k ≡ o → nat_lt n (option_map_or (λ (a : Titled). instance_count study.size a.sentence) o 0) ≡ true
      → option_map_or (λ (a : Titled). number_of (bases_of study.size a.sentence) (option_map_or (λ (b : Titled). instance_values study.size b.sentence n) o [])) o 0 ≡ n
  number_back k n None e lt = absurd (let l = ltb-true n 0 lt in omega (arith, l))
  number_back k n (Some a) e lt = (are_one_to_one (bases_of study.size a.sentence)).of_digits n (ltb-true n (instance_count study.size a.sentence) lt)

  -- an instance that is cited by the reason of another is that one
  same_cited : (c d : Cited) → is_present study c ≡ true → cites study d (reason_at study c) ≡ true → c ≡ d
  same_cited c d h e =
      let p = and_parts (nat_lt c.«axiom» (length study.axioms)) (nat_lt c.number (count_at study c.«axiom»)) h in
      let q = and_parts (d.«axiom» == c.«axiom») (d.number == number_at study c.«axiom» (values_at study c)) e in
      let k : d.«axiom» ≡ c.«axiom» = eqb-true d.«axiom» c.«axiom» q.0 in
      let n : d.number ≡ c.number = eqb-true d.number (number_at study c.«axiom» (values_at study c)) q.1 ∙ number_back c.«axiom» c.number (slice_get study.axioms c.«axiom») refl p.1 in
      sym (λ i. record { «axiom» = k i; number = n i })

  module _ (instances : List Cited) (present : list_all (is_present study) instances ≡ true) where
    back_names : (k : ℕ) (o : Option Cited) → slice_get instances k ≡ o → names_instance study (reason_citing study o) ≡ true
    back_names k None e = refl
    back_names k (Some c) e = reason_names c (all_get (is_present study) instances k c present e)

    reasons_name : (r : Reason) → names_instance study (named_back study instances r) ≡ true
    reasons_name (ByAxiom k values) = back_names k (slice_get instances k) refl
    reasons_name (ByOutcome p) = refl
    reasons_name (ByLemma j) = refl

    steps_name : (steps : List StoryStep) (last : Reason) → list_all (names_instance study) (map (λ (s : StoryStep). s.reason) (map (step_named study instances) steps) ++ named_back study instances last ∷ []) ≡ true
    steps_name [] last = and_from _ _ (reasons_name last) refl
    steps_name (s ∷ steps) last = and_from _ _ (reasons_name s.reason) (steps_name steps last)

    pub named_have_reasons : (story : List Lemma) → has_reasons study (story_named study instances story) ≡ true
    named_have_reasons [] = refl
    named_have_reasons (lemma ∷ story) = and_from _ _ (steps_name lemma.steps lemma.last) (named_have_reasons story)

    -- ---- what is cited comes of a reason of the story over the derived study

    abbrev IsFrom : Cited → (ℕ → Bool) → Type 0
    IsFrom d t = (k : ℕ) × (t k ≡ true) × (slice_get instances k ≡ Some d)

    back_from : (d : Cited) (k : ℕ) (o : Option Cited) → slice_get instances k ≡ o → cites study d (reason_citing study o) ≡ true → slice_get instances k ≡ Some d
    back_from d k None e h = absurd (true≢false (sym h))
    back_from d k (Some c) e h = e ∙ ap (λ (x : Cited). Some x) (same_cited c d (all_get (is_present study) instances k c present e) h)

    reason_from : (d : Cited) (r : Reason) → cites study d (named_back study instances r) ≡ true → IsFrom d (λ k. cites_axiom k r)
    reason_from d (ByAxiom k values) h = (k, eq-eqb k k refl, back_from d k (slice_get instances k) refl h)
    reason_from d (ByOutcome p) h = absurd (true≢false (sym h))
    reason_from d (ByLemma j) h = absurd (true≢false (sym h))

    reasons_from : (d : Cited) (steps : List StoryStep) (last : Reason) → list_any (cites study d) (map (λ (s : StoryStep). s.reason) (map (step_named study instances) steps) ++ named_back study instances last ∷ []) ≡ true
        → IsFrom d (λ k. list_any (cites_axiom k) (map (λ (s : StoryStep). s.reason) steps ++ last ∷ []))
    reasons_from d [] last h = elim (or_cases (cites study d (named_back study instances last)) false h) [
      | inl e ↦ let r = reason_from d last e in (r.0, or_left (cites_axiom r.0 last) false r.1, r.2)
      | inr e ↦ absurd (true≢false (sym e))
    ]
    reasons_from d (s ∷ steps) last h =
        elim (or_cases (cites study d (named_back study instances s.reason)) (list_any (cites study d) (map (λ (x : StoryStep). x.reason) (map (step_named study instances) steps) ++ named_back study instances last ∷ [])) h) [
          | inl e ↦ let r = reason_from d s.reason e in (r.0, or_left (cites_axiom r.0 s.reason) (list_any (cites_axiom r.0) (map (λ (x : StoryStep). x.reason) steps ++ last ∷ [])) r.1, r.2)
          | inr e ↦ let r = reasons_from d steps last e in (r.0, or_right (cites_axiom r.0 s.reason) (list_any (cites_axiom r.0) (map (λ (x : StoryStep). x.reason) steps ++ last ∷ [])) r.1, r.2)
        ]

-- ---- an accepted story cites axioms of its core alone

module _ (size : Extent) (axioms : List Titled) (core : List ℕ) where
  abbrev InCore : ℕ → Type 0
  InCore k = list_any (λ c. c == k) core ≡ true

  refuted_core : (k : ℕ) (earlier : List Lemma) (known : List Literal) (r : Reason) → refutes size axioms core earlier known r ≡ true → cites_axiom k r ≡ true → InCore k
  refuted_core k earlier known (ByAxiom j values) h e =
      subst (λ (x : ℕ). list_any (λ c. c == x) core ≡ true) (eqb-true j k e) (and_parts (list_any (λ c. c == j) core) (is_instance_false size known (slice_get axioms j) values) h).0
  refuted_core k earlier known (ByOutcome p) h e = absurd (true≢false (sym e))
  refuted_core k earlier known (ByLemma j) h e = absurd (true≢false (sym e))

  forced_core : (k : ℕ) (earlier : List Lemma) (last : Reason) (known : List Literal) (steps : List StoryStep) → are_forced size axioms core earlier last known steps ≡ true
      → list_any (cites_axiom k) (map (λ (s : StoryStep). s.reason) steps ++ last ∷ []) ≡ true → InCore k
  forced_core k earlier last known [] h e = elim (or_cases (cites_axiom k last) false e) [
    | inl c ↦ refuted_core k earlier known last h c
    | inr c ↦ absurd (true≢false (sym c))
  ]
  forced_core k earlier last known (step ∷ steps) h e =
      let a = and_parts (not (is_decided known step.literal) && refutes size axioms core earlier (known ++ opposite_of step.literal ∷ []) step.reason) (are_forced size axioms core earlier last (known ++ step.literal ∷ []) steps) h in
      let b = and_parts (not (is_decided known step.literal)) (refutes size axioms core earlier (known ++ opposite_of step.literal ∷ []) step.reason) a.0 in
      elim (or_cases (cites_axiom k step.reason) (list_any (cites_axiom k) (map (λ (s : StoryStep). s.reason) steps ++ last ∷ [])) e) [
        | inl c ↦ refuted_core k earlier (known ++ opposite_of step.literal ∷ []) step.reason b.1 c
        | inr c ↦ forced_core k earlier last (known ++ step.literal ∷ []) steps a.1 c
      ]

  lemma_core : (k : ℕ) (earlier : List Lemma) (lemma : Lemma) → is_lemma size axioms core earlier lemma ≡ true → list_any (cites_axiom k) (reasons_of lemma) ≡ true → InCore k
  lemma_core k earlier lemma h e =
      let a = and_parts (has_literals size lemma && are_new [] lemma.suppose) (are_forced size axioms core earlier lemma.last lemma.suppose lemma.steps) h in
      forced_core k earlier lemma.last lemma.suppose lemma.steps a.1 e

-- ---- so what a named story cites is of its core

module _ (study : Question) (instances : List Cited) (present : list_all (is_present study) instances ≡ true) (size : Extent) (axioms : List Titled) (core : List ℕ) where
  abbrev IsOfCore : Cited → Type 0
  IsOfCore d = (k : ℕ) × (list_any (λ c. c == k) core ≡ true) × (slice_get instances k ≡ Some d)

  named_lemma : (d : Cited) (earlier : List Lemma) (lemma : Lemma) → is_lemma size axioms core earlier lemma ≡ true → list_any (cites study d) (reasons_of (lemma_named study instances lemma)) ≡ true → IsOfCore d
  named_lemma d earlier lemma h e = let r = reasons_from study instances present d lemma.steps lemma.last e in (r.0, lemma_core size axioms core r.0 earlier lemma h r.1, r.2)

  told_of_core : (d : Cited) (earlier story : List Lemma) → is_story_from size axioms core earlier story ≡ true → is_told study (story_named study instances story) d ≡ true → IsOfCore d
  told_of_core d earlier [] h e = absurd (true≢false (sym h))
  told_of_core d earlier (lemma ∷ []) h e =
      let a = and_parts (is_lemma size axioms core earlier lemma) (length lemma.suppose == 0) h in
      elim (or_cases (list_any (cites study d) (reasons_of (lemma_named study instances lemma))) false e) [
        | inl c ↦ named_lemma d earlier lemma a.0 c
        | inr c ↦ absurd (true≢false (sym c))
      ]
  told_of_core d earlier (lemma ∷ next ∷ rest) h e =
      let a = and_parts (is_lemma size axioms core earlier lemma) (is_story_from size axioms core (earlier ++ lemma ∷ []) (next ∷ rest)) h in
      elim (or_cases (list_any (cites study d) (reasons_of (lemma_named study instances lemma))) (is_told study (story_named study instances (next ∷ rest)) d) e) [
        | inl c ↦ named_lemma d earlier lemma a.0 c
        | inr c ↦ told_of_core d (earlier ++ lemma ∷ []) (next ∷ rest) a.1 c
      ]

  pub told_in_core : (d : Cited) (story : List Lemma) → is_story size axioms core story ≡ true → is_told study (story_named study instances story) d ≡ true → IsOfCore d
  told_in_core d story h e = told_of_core d [] story h e
