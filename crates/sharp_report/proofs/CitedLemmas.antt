-- The instances that the lines of a story cite.
use Rattle.std.proofs.Common.{◌≡◌, refl, sym, ap, ap₂, ◌∙◌, subst, ℕ, Bool, true, false, ◌&&◌, cond, List, [], ◌∷◌, ◌++◌, map, length, Option, Some, None, append_assoc, append-nil, true≢false}
use Rattle.std.specs.Prelude.{◌==◌}
use Rattle.std.specs.List.{list_all}
use Rattle.std.proofs.lemmas.Bool.{and_parts, and_from}
use Rattle.std.proofs.lemmas.Grind.{flat_map-append}
use Rattle.std.proofs.lemmas.List.{map-append}
use Rattle.lists.proofs.TestLaws.{all_snoc}
use Rattle.vocab.specs.declared.literals.Literal.{Literal}
use Rattle.vocab.specs.Study.{Question}
use Rattle.meaning.specs.declared.stories.Reason.{Reason}
use Rattle.meaning.specs.declared.stories.Reason.TheVariants.{Axiom as ByAxiom, Outcome as ByOutcome, Lemma as ByLemma}
use Rattle.meaning.specs.declared.stories.Lemma.{Lemma}
use Rattle.meaning.specs.declared.stories.StoryStep.{StoryStep}
use Rattle.verdicts.specs.Report.{is_reason}
use Rattle.verdicts.specs.Lines.{Line, AlternativesAre, SaysPossible, SaysUndecided, LimitIs, RuleOf, Row, Suppose, So, Clash, WithRule, WithOpen, End}
use Rattle.verdicts.specs.Places.{Place, AtLimit, AtRule, AtRow, AtBallots, AtAxioms, AtLemma, AtSuppose, AtStep, AtWitness, AtWitnessRow, AtEnd, Standing}
use Rattle.verdicts.specs.Faults.{next_core, fault_of}
use Rattle.verdicts.specs.Judge.{witness_place, after_witness, advance}
use Rattle.verdicts.specs.declared.verdicts.Verdict.{Verdict}
use Rattle.verdicts.specs.declared.verdicts.Verdict.TheVariants.{Impossible}
use Rattle.verdicts.proofs.FitLaws.{Fits}
use Rattle.report_lines.specs.Held.{held_reason, held_line}
use Rattle.sharp_verdicts.specs.declared.instances.Cited.{Cited}
use Rattle.sharp_verdicts.specs.Instances.{is_axiom_told, instances_of, reasons_of}
use Rattle.sharp_verdicts.specs.SharpPlaces.{is_story_read}
use Rattle.told_instances.specs.Told.{codes_in, codes_by, codes_told, names_instance, has_reasons}
use Rattle.told_instances.proofs.ToldLaws.{axiom_listed}
use Rattle.sharp_report.specs.Cited.{codes_of_line, names_of_line, says_possible, has_axiom, Cites}
use Rattle.sharp_report.specs.SharpStands.{is_before_story}

module _ (study : Question) where
  -- ---- reasons, as they are held

  pub named_reason : (r : Reason) → is_reason study r ≡ true → names_instance study r ≡ true
  named_reason (ByAxiom k values) h = h
  named_reason (ByOutcome p) h = refl
  named_reason (ByLemma j) h = refl

  named_held : (r : Reason) → is_reason study r ≡ true → names_instance study (held_reason r) ≡ true
  named_held (ByAxiom k values) h = h
  named_held (ByOutcome p) h = refl
  named_held (ByLemma j) h = refl

  same_codes : (r : Reason) → codes_in study (held_reason r) ≡ codes_in study r
  same_codes (ByAxiom k values) = refl
  same_codes (ByOutcome p) = refl
  same_codes (ByLemma j) = refl

  so_fits : (p : Place) (n : ℕ) (l : Literal) (r : Reason) → Fits study p n (So l r) → is_reason study r ≡ true
  so_fits AtSuppose n l r f = f.1
  so_fits AtStep n l r f = f.1
  so_fits p n l r f = absurd f

  clash_fits : (p : Place) (n : ℕ) (r : Reason) → Fits study p n (Clash r) → is_reason study r ≡ true
  clash_fits AtSuppose n r f = f
  clash_fits AtStep n r f = f
  clash_fits p n r f = absurd f

  -- a line that fits its place names what there is
  pub named_line : (p : Place) (n : ℕ) (w : Line) → Fits study p n w → names_of_line study (held_line study w) ≡ true
  named_line p n (So l r) f = named_held r (so_fits p n l r f)
  named_line p n (Clash r) f = named_held r (clash_fits p n r f)
  named_line p n w f = refl

  -- ---- one reason more

  no_more : (cs : List ℕ) (earlier : List Lemma) (steps : List StoryStep) → Cites study cs earlier steps → Cites study (cs ++ []) earlier steps
  no_more cs earlier steps h = record { are = append-nil cs ∙ h.are; lemmas_named = h.lemmas_named; steps_named = h.steps_named }

  by_more : (steps : List StoryStep) (r : Reason) → codes_by study (map (λ step. step.reason) steps ++ r ∷ []) ≡ codes_by study (map (λ step. step.reason) steps) ++ codes_in study r
  by_more steps r = flat_map-append (codes_in study) (map (λ (step : StoryStep). step.reason) steps) (r ∷ []) ∙ ap (λ (xs : List ℕ). codes_by study (map (λ (step : StoryStep). step.reason) steps) ++ xs) (append-nil (codes_in study r))

  module _ (cs : List ℕ) (earlier : List Lemma) (steps : List StoryStep) (r : Reason) (h : Cites study cs earlier steps) (named : names_instance study r ≡ true) where
    together : cs ++ codes_in study r ≡ codes_told study earlier ++ codes_by study (map (λ step. step.reason) steps ++ r ∷ [])
    together =
        ap (λ (xs : List ℕ). xs ++ codes_in study r) h.are
        ∙ append_assoc (codes_told study earlier) (codes_by study (map (λ (step : StoryStep). step.reason) steps)) (codes_in study r)
        ∙ ap (λ (xs : List ℕ). codes_told study earlier ++ xs) (sym (by_more steps r))

    -- in a step
    step_more : (l : Literal) → Cites study (cs ++ codes_in study r) earlier (steps ++ record { literal = l; reason = r } ∷ [])
    step_more l = record {
      are = together ∙ ap (λ (rs : List Reason). codes_told study earlier ++ codes_by study rs) (sym (map-append (λ (step : StoryStep). step.reason) steps (record { literal = l; reason = r } ∷ [])));
      lemmas_named = h.lemmas_named;
      steps_named = all_snoc (λ (step : StoryStep). names_instance study step.reason) steps (record { literal = l; reason = r }) h.steps_named named;
    }

    all_named : (ss : List StoryStep) → list_all (λ step. names_instance study step.reason) ss ≡ true → list_all (names_instance study) (map (λ step. step.reason) ss) ≡ true
    all_named [] k = refl
    all_named (s ∷ ss) k = let e = and_parts (names_instance study s.reason) (list_all (λ (step : StoryStep). names_instance study step.reason) ss) k in and_from _ _ e.0 (all_named ss e.1)

    -- as the last one of a lemma
    lemma_more : (suppose : List Literal) → Cites study (cs ++ codes_in study r) (earlier ++ record { suppose = suppose; steps = steps; last = r } ∷ []) []
    lemma_more suppose =
        let lemma : Lemma = record { suppose = suppose; steps = steps; last = r } in
        record {
          are = together
              ∙ ap (λ (xs : List ℕ). codes_told study earlier ++ xs) (sym (append-nil (codes_by study (reasons_of lemma))))
              ∙ sym (flat_map-append (λ (l : Lemma). codes_by study (reasons_of l)) earlier (lemma ∷ []))
              ∙ sym (append-nil (codes_told study (earlier ++ lemma ∷ [])));
          lemmas_named = all_snoc (λ (l : Lemma). list_all (names_instance study) (reasons_of l)) earlier lemma h.lemmas_named (all_snoc (names_instance study) (map (λ (step : StoryStep). step.reason) steps) r (all_named steps h.steps_named) named);
          steps_named = refl;
        }

  -- ---- one line more

  -- what is collected after a line of a report: the whole story, or a part of it
  abbrev pub After : Bool → Standing → List ℕ → Type 0
  After true t cs = Cites study cs t.earlier []
  After false t cs = (is_before_story t.place ≡ true) × Cites study cs t.earlier t.steps

  pub not_read : (p : Place) → is_before_story p ≡ true → is_story_read p ≡ false
  not_read AtWitness b = absurd (true≢false (sym b))
  not_read (AtEnd v) b = absurd (true≢false (sym b))
  not_read p b = refl

  limit_out : (p : Place) (n m : ℕ) → is_before_story p ≡ true → Fits study p n (LimitIs m) → ⊥
  limit_out AtLimit n m b f = true≢false (sym b)
  limit_out p n m b f = f

  rule_out : (p : Place) (n m : ℕ) → is_before_story p ≡ true → Fits study p n (RuleOf m) → ⊥
  rule_out AtRule n m b f = true≢false (sym b)
  rule_out p n m b f = f

  row_out : (p : Place) (n q o : ℕ) → is_before_story p ≡ true → Fits study p n (Row q o) → ⊥
  row_out AtRow n q o b f = true≢false (sym b)
  row_out AtWitnessRow n q o b f = true≢false (sym b)
  row_out p n q o b f = f

  with_rule_out : (p : Place) (n m : ℕ) (name : List ℕ) → is_before_story p ≡ true → Fits study p n (WithRule name m) → ⊥
  with_rule_out AtWitness n m name b f = true≢false (sym b)
  with_rule_out p n m name b f = f

  with_open_out : (p : Place) (n m : ℕ) (name : List ℕ) → is_before_story p ≡ true → Fits study p n (WithOpen name m) → ⊥
  with_open_out AtWitness n m name b f = true≢false (sym b)
  with_open_out p n m name b f = f

  end_out : (p : Place) (n : ℕ) → is_before_story p ≡ true → Fits study p n End → ⊥
  end_out (AtEnd v) n b f = true≢false (sym b)
  end_out p n b f = f

  module _ (t : Standing) (cs : List ℕ) where
    -- after the number of alternatives
    at_ballots : (b : Bool) → Cites study cs t.earlier t.steps → After (is_story_read (cond b AtBallots AtAxioms)) (record t { place = cond b AtBallots AtAxioms }) cs
    at_ballots true h = (refl, h)
    at_ballots false h = (refl, h)

    -- after a lemma
    at_witness : (o : Option ℕ) (v : Verdict) → Cites study cs t.earlier [] → After (is_story_read (witness_place o v)) (record t { place = witness_place o v }) cs
    at_witness None v h = h
    at_witness (Some k) v h = h

    after_told : (b : Bool) → t.steps ≡ [] → Cites study cs t.earlier [] → After (is_story_read (cond b (after_witness t) (record t { place = AtLemma })).place) (cond b (after_witness t) (record t { place = AtLemma })) cs
    after_told true e h = at_witness (next_core t) (Impossible t.core t.earlier t.witnesses) h
    after_told false e h = (refl, subst (Cites study cs t.earlier) (sym e) h)

  pub next : (n : ℕ) (t : Standing) (w : Line) (cs : List ℕ) → is_before_story t.place ≡ true → Fits study t.place n w → fault_of study t w ≡ None → says_possible (held_line study w) ≡ false → Cites study cs t.earlier t.steps
      → After (is_story_read (advance study t w).place) (advance study t w) (cs ++ codes_of_line study (held_line study w))
  next n t (AlternativesAre m) cs b f e p h = at_ballots t (cs ++ []) (t.version == 2) (no_more cs t.earlier t.steps h)
  next n t SaysPossible cs b f e p h = absurd (true≢false p)
  next n t SaysUndecided cs b f e p h = absurd (cc)
  next n t (LimitIs m) cs b f e p h = absurd (limit_out t.place n m b f)
  next n t (RuleOf m) cs b f e p h = absurd (rule_out t.place n m b f)
  next n t (Row q o) cs b f e p h = absurd (row_out t.place n q o b f)
  next n t (Suppose l) cs b f e p h = subst (λ (x : Bool). After x (advance study t (Suppose l)) (cs ++ [])) (sym (not_read t.place b)) (b, no_more cs t.earlier t.steps h)
  next n t (So l r) cs b f e p h =
      (refl, subst (λ (xs : List ℕ). Cites study (cs ++ xs) t.earlier (t.steps ++ record { literal = l; reason = r } ∷ [])) (sym (same_codes r)) (step_more cs t.earlier t.steps r h (named_reason r (so_fits t.place n l r f)) l))
  next n t (Clash r) cs b f e p h =
      let lemma : Lemma = record { suppose = t.suppose; steps = t.steps; last = r } in
      let u : Standing = record t { earlier = t.earlier ++ lemma ∷ []; suppose = []; steps = [] } in
      let cited = lemma_more cs t.earlier t.steps r h (named_reason r (clash_fits t.place n r f)) t.suppose in
      after_told u (cs ++ codes_in study (held_reason r)) (length u.earlier == u.count) refl (subst (λ (xs : List ℕ). Cites study (cs ++ xs) u.earlier []) (sym (same_codes r)) cited)
  next n t (WithRule name m) cs b f e p h = absurd (with_rule_out t.place n m name b f)
  next n t (WithOpen name m) cs b f e p h = absurd (with_open_out t.place n m name b f)
  next n t End cs b f e p h = absurd (end_out t.place n b f)
  next n t w cs b f e p h = (refl, no_more cs t.earlier t.steps h)

  -- ---- the core

  -- the instances that a story cites are of the axioms that it cites
  pub core_told : (story : List Lemma) (instances : List Cited) (core : List ℕ) → has_reasons study story ≡ true → instances ≡ instances_of study story → list_all (has_axiom instances) core ≡ list_all (is_axiom_told story) core
  core_told story instances core h e = ap (λ (cs : List Cited). list_all (has_axiom cs) core) e ∙ all_same core
    where
      all_same : (ks : List ℕ) → list_all (has_axiom (instances_of study story)) ks ≡ list_all (is_axiom_told story) ks
      all_same [] = refl
      all_same (k ∷ ks) = ap₂ (λ (x y : Bool). x && y) (axiom_listed study story k h) (all_same ks)

  -- the numbers of a whole story
  pub whole_codes : (cs : List ℕ) (story : List Lemma) → Cites study cs story [] → cs ≡ codes_told study story
  whole_codes cs story h = h.are ∙ append-nil (codes_told study story)
