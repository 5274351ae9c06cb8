-- What a right verdict names is in range.
use Rattle.std.proofs.Common.{◌≡◌, refl, sym, ap, ◌∙◌, subst, ℕ, ◌+◌, ◌<◌, ◌≤◌, inl, inr, Bool, true, false, not, ◌&&◌, List, [], ◌∷◌, ◌++◌, map, length, filter, Option, Some, None, arith, true≢false, cond, lt-ltb, eqb-true, length-append}
use Rattle.std.specs.Prelude.{◌==◌, nat_lt, slice_get}
use Rattle.std.specs.List.{list_all, list_any}
use Rattle.std.specs.Cmp.Lexicographic.{pointwise}
use Rattle.std.proofs.lemmas.Bool.{and_parts, and_from, cases_lt}
use Rattle.std.proofs.lemmas.Option.{slice_get_past}
use Rattle.lists.proofs.TestLaws.{all_snoc, all_weaker}
use Rattle.vocab.specs.declared.kinds.Sort.TheVariants.{Profile}
use Rattle.vocab.specs.declared.literals.Literal.{Literal}
use Rattle.vocab.specs.Literal.{opposite_of, profile_of}
use Rattle.vocab.specs.Size.{sort_count, outcome_count}
use Rattle.vocab.specs.Study.{Question}
use Rattle.vocab.specs.Titled.{Titled}
use Rattle.meaning.specs.declared.cores.Witness.{Witness}
use Rattle.meaning.specs.declared.cores.Witness.TheVariants.{Rule, Open}
use Rattle.meaning.specs.declared.stories.Reason.{Reason}
use Rattle.meaning.specs.declared.stories.Reason.TheVariants.{Axiom as ByAxiom, Outcome as ByOutcome, Lemma as ByLemma}
use Rattle.meaning.specs.declared.stories.StoryStep.{StoryStep}
use Rattle.meaning.specs.declared.stories.Lemma.{Lemma}
use Rattle.meaning.specs.Space.{below}
use Rattle.meaning.specs.Truth.{holds_of, is_rule}
use Rattle.meaning.specs.Literals.{is_literal}
use Rattle.meaning.specs.Stories.{is_claim_false, is_instance_false, is_outcome_excluded, refutes, is_decided, are_new, has_literals, are_forced, is_lemma, is_story_from, is_story}
use Rattle.meaning.specs.Cores.{is_core_from, is_witness}
use Rattle.meaning.proofs.LiteralLaws.{is_literal-opposite, profile_in}
use Rattle.meaning.proofs.SpaceLaws.{any_from, some_outcome}
use Rattle.verdicts.specs.declared.verdicts.Verdict.{Verdict}
use Rattle.verdicts.specs.declared.verdicts.Verdict.TheVariants.{Possible, Impossible, Undecided}
use Rattle.verdicts.specs.Lines.{sorts_of}
use Rattle.verdicts.specs.Report.{is_reason, is_lemma_text, is_witness_text, has_text, is_right}
use Rattle.verdicts.specs.Laws.{IsReportable}

-- the lemma that a reason cites is one of the first n
abbrev pub cites_below : ℕ → Reason → Bool
cites_below n (ByAxiom k values) = true
cites_below n (ByOutcome p) = true
cites_below n (ByLemma j) = nat_lt j n

module _ (study : Question) (is : IsReportable study) where
  -- a reason names what there is, and cites one of the first n lemmas
  abbrev pub is_sound_reason : ℕ → Reason → Bool
  is_sound_reason n r = is_reason study r && cites_below n r

  abbrev pub is_sound_step : ℕ → StoryStep → Bool
  is_sound_step n step = is_literal study.size step.literal && is_sound_reason n step.reason

  abbrev pub is_sound_lemma : ℕ → Lemma → Bool
  is_sound_lemma n lemma = list_all (is_literal study.size) lemma.suppose && list_all (is_sound_step n) lemma.steps && is_sound_reason n lemma.last

  -- ---- reasons that refute

  values_in_range : (known : List Literal) (o : Option Titled) (values : List ℕ) → is_instance_false study.size known o values ≡ true → pointwise nat_lt values (map (sort_count study.size) (sorts_of o)) ≡ true
  values_in_range known None values h = absurd (true≢false (sym h))
  values_in_range known (Some a) values h = (and_parts (pointwise nat_lt values (map (sort_count study.size) (sorts_of (Some a)))) _ h).0

  axiom_in_range : (known : List Literal) (k : ℕ) (values : List ℕ) → is_instance_false study.size known (slice_get study.axioms k) values ≡ true → nat_lt k (length study.axioms) ≡ true
  axiom_in_range known k values h = elim (cases_lt k (length study.axioms)) [
    | inl l ↦ lt-ltb k _ l
    | inr le ↦ absurd (true≢false (sym (subst (λ o. is_instance_false study.size known o values ≡ true) (slice_get_past study.axioms k le) h)))
  ]

  -- no literal of the size speaks of a profile that is none
  none_there : (p : ℕ) (known : List Literal) → sort_count study.size Profile ≤ p → list_all (is_literal study.size) known ≡ true → filter (λ l. profile_of l == p) known ≡ []
  none_there p [] le h = refl
  none_there p (l ∷ known) le h =
      let q = and_parts (is_literal study.size l) (list_all (is_literal study.size) known) h in
      by_test (profile_of l == p) refl (profile_in study.size study.size.kind l q.0) (none_there p known le q.1)
    where
      by_test : (b : Bool) → (profile_of l == p) ≡ b → profile_of l < sort_count study.size Profile → filter (λ l. profile_of l == p) known ≡ [] → cond b (l ∷ filter (λ l. profile_of l == p) known) (filter (λ l. profile_of l == p) known) ≡ []
      by_test true e less rest = absurd (omega (arith, eqb-true (profile_of l) p e, less, le))
      by_test false e less rest = rest

  profile_in_range : (known : List Literal) (p : ℕ) → list_all (is_literal study.size) known ≡ true → is_outcome_excluded study.size known p ≡ true → nat_lt p (sort_count study.size Profile) ≡ true
  profile_in_range known p h e = elim (cases_lt p (sort_count study.size Profile)) [
    | inl l ↦ lt-ltb p _ l
    | inr le ↦ absurd (true≢false (sym (sym (ap not (some_holds le)) ∙ e)))
  ]
    where
      some_holds : sort_count study.size Profile ≤ p → list_any (λ o. list_all (holds_of study.size o) (filter (λ l. profile_of l == p) known)) (below (outcome_count study.size.kind study.size.alternatives)) ≡ true
      some_holds le =
          any_from (λ o. list_all (holds_of study.size o) (filter (λ l. profile_of l == p) known)) (outcome_count study.size.kind study.size.alternatives) 0 0
          (ap (list_all (holds_of study.size 0)) (none_there p known le h)) (omega arith) (omega (arith, some_outcome study.size.kind study.size.alternatives is.size.some_alternative))

  lemma_in_range : (known : List Literal) (earlier : List Lemma) (j : ℕ) → is_claim_false known (slice_get earlier j) ≡ true → j < length earlier
  lemma_in_range known earlier j h = elim (cases_lt j (length earlier)) [
    | inl l ↦ l
    | inr le ↦ absurd (true≢false (sym (subst (λ o. is_claim_false known o ≡ true) (slice_get_past earlier j le) h)))
  ]

  module _ (core : List ℕ) (n : ℕ) where
    abbrev refuted : List Lemma → List Literal → Reason → Bool
    refuted earlier known r = refutes study.size study.axioms core earlier known r

    sound_reason : (earlier : List Lemma) (known : List Literal) (r : Reason) → length earlier ≤ n → list_all (is_literal study.size) known ≡ true → refuted earlier known r ≡ true → is_sound_reason n r ≡ true
    sound_reason earlier known (ByAxiom k values) le h e =
        let p = and_parts (list_any (λ c. c == k) core) _ e in
        and_from _ _ (and_from _ _ (axiom_in_range known k values p.1) (values_in_range known (slice_get study.axioms k) values p.1)) refl
    sound_reason earlier known (ByOutcome p) le h e = and_from _ _ (profile_in_range known p h e) refl
    sound_reason earlier known (ByLemma j) le h e = lt-ltb j n (omega (arith, le, lemma_in_range known earlier j e))

    -- ---- accepted stories

    opposite_in : (l : Literal) → is_literal study.size l ≡ true → is_literal study.size (opposite_of l) ≡ true
    opposite_in l h = is_literal-opposite study.size study.size.kind l h

    sound_steps : (earlier : List Lemma) (last : Reason) (known : List Literal) (steps : List StoryStep) → length earlier ≤ n → list_all (is_literal study.size) known ≡ true → list_all (λ step. is_literal study.size step.literal) steps ≡ true →
        are_forced study.size study.axioms core earlier last known steps ≡ true → (list_all (is_sound_step n) steps ≡ true) × (is_sound_reason n last ≡ true)
    sound_steps earlier last known [] le h g f = (refl, sound_reason earlier known last le h f)
    sound_steps earlier last known (step ∷ steps) le h g f =
        let p = and_parts (is_literal study.size step.literal) (list_all (λ step. is_literal study.size step.literal) steps) g in
        let q = and_parts (not (is_decided known step.literal) && refuted earlier (known ++ opposite_of step.literal ∷ []) step.reason) _ f in
        let r = and_parts (not (is_decided known step.literal)) _ q.0 in
        let rest = sound_steps earlier last (known ++ step.literal ∷ []) steps le (all_snoc (is_literal study.size) known step.literal h p.0) p.1 q.1 in
        let here = sound_reason earlier (known ++ opposite_of step.literal ∷ []) step.reason le (all_snoc (is_literal study.size) known (opposite_of step.literal) h (opposite_in step.literal p.0)) r.1 in
        (and_from _ _ (and_from _ _ p.0 here) rest.0, rest.1)

    sound_lemma : (earlier : List Lemma) (lemma : Lemma) → length earlier ≤ n → is_lemma study.size study.axioms core earlier lemma ≡ true → is_sound_lemma n lemma ≡ true
    sound_lemma earlier lemma le h =
        let p = and_parts (has_literals study.size lemma && are_new [] lemma.suppose) _ h in
        let q = and_parts (has_literals study.size lemma) (are_new [] lemma.suppose) p.0 in
        let l = and_parts (list_all (is_literal study.size) lemma.suppose) _ q.0 in
        let s = sound_steps earlier lemma.last lemma.suppose lemma.steps le l.0 l.1 p.1 in
        and_from _ _ (and_from _ _ l.0 s.0) s.1

    pub sound_story : (earlier story : List Lemma) → length earlier + length story ≤ n → is_story_from study.size study.axioms core earlier story ≡ true → list_all (is_sound_lemma n) story ≡ true
    sound_story earlier [] le h = refl
    sound_story earlier (lemma ∷ []) le h =
        let p = and_parts (is_lemma study.size study.axioms core earlier lemma) _ h in
        and_from _ _ (sound_lemma earlier lemma (omega (arith, le)) p.0) refl
    sound_story earlier (lemma ∷ next ∷ rest) le h =
        let p = and_parts (is_lemma study.size study.axioms core earlier lemma) _ h in
        and_from _ _ (sound_lemma earlier lemma (omega (arith, le)) p.0) (sound_story (earlier ++ lemma ∷ []) (next ∷ rest) (omega (arith, le, length-append earlier (lemma ∷ []))) p.1)

  -- ---- right verdicts

  lemma_has_text : (n : ℕ) (lemma : Lemma) → is_sound_lemma n lemma ≡ true → is_lemma_text study lemma ≡ true
  lemma_has_text n lemma h =
      let p = and_parts (list_all (is_literal study.size) lemma.suppose && list_all (is_sound_step n) lemma.steps) (is_sound_reason n lemma.last) h in
      let q = and_parts (list_all (is_literal study.size) lemma.suppose) (list_all (is_sound_step n) lemma.steps) p.0 in
      and_from _ _ (and_from _ _ q.0 (all_weaker (is_sound_step n) (λ step. is_literal study.size step.literal && is_reason study step.reason) step_has_text lemma.steps q.1)) (and_parts (is_reason study lemma.last) (cites_below n lemma.last) p.1).0
    where
      step_has_text : (step : StoryStep) → is_sound_step n step ≡ true → (is_literal study.size step.literal && is_reason study step.reason) ≡ true
      step_has_text step e = let p = and_parts (is_literal study.size step.literal) _ e in and_from _ _ p.0 (and_parts (is_reason study step.reason) (cites_below n step.reason) p.1).0

  some_lemma : (core : List ℕ) (story : List Lemma) → is_story study.size study.axioms core story ≡ true → nat_lt 0 (length story) ≡ true
  some_lemma core [] h = absurd (true≢false (sym h))
  some_lemma core (lemma ∷ story) h = lt-ltb 0 (length (lemma ∷ story)) (omega arith)

  pub core_in_range : (from : ℕ) (core : List ℕ) → is_core_from from (length study.axioms) core ≡ true → list_all (λ k. nat_lt k (length study.axioms)) core ≡ true
  core_in_range from [] h = refl
  core_in_range from (k ∷ core) h =
      let p = and_parts (not (nat_lt k from) && nat_lt k (length study.axioms)) (is_core_from (k + 1) (length study.axioms) core) h in
      and_from _ _ (and_parts (not (nat_lt k from)) (nat_lt k (length study.axioms)) p.0).1 (core_in_range (k + 1) core p.1)

  witnesses_have_texts : (whole core : List ℕ) (witnesses : List Witness) → pointwise (is_witness study.size study.axioms study.conflicts whole) core witnesses ≡ true → pointwise (is_witness_text study) core witnesses ≡ true
  witnesses_have_texts whole [] [] h = refl
  witnesses_have_texts whole [] (w ∷ witnesses) h = absurd (true≢false (sym h))
  witnesses_have_texts whole (k ∷ core) [] h = absurd (true≢false (sym h))
  witnesses_have_texts whole (k ∷ core) (w ∷ witnesses) h =
      let p = and_parts (is_witness study.size study.axioms study.conflicts whole k w) _ h in
      and_from _ _ (witness_has_text w p.0) (witnesses_have_texts whole core witnesses p.1)
    where
      witness_has_text : (w : Witness) → is_witness study.size study.axioms study.conflicts whole k w ≡ true → is_witness_text study k w ≡ true
      witness_has_text (Rule table) e = (and_parts (is_rule study.size table) _ e).0
      witness_has_text (Open limit) e = refl

  -- each right verdict has a text
  pub right_has_text : (verdict : Verdict) → is_right study verdict ≡ true → has_text study verdict ≡ true
  right_has_text (Possible table) h = (and_parts (is_rule study.size table) _ h).0
  right_has_text (Impossible core story witnesses) h =
      let p = and_parts (is_story study.size study.axioms core story) _ h in
      let q = and_parts (is_core_from 0 (length study.axioms) core) _ p.1 in
      let lemmas = sound_story core (length story) [] story (omega arith) p.0 in
      and_from _ _ (and_from _ _ (and_from _ _ (some_lemma core story p.0) (all_weaker (is_sound_lemma (length story)) (is_lemma_text study) (lemma_has_text (length story)) story lemmas)) (core_in_range 0 core q.0)) (witnesses_have_texts core core witnesses q.1)
  right_has_text Undecided h = refl
