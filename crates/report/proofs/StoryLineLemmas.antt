-- What a judging stands for in lemmas.
use Rattle.std.proofs.Common.{◌≡◌, refl, sym, ap, ap₂, ◌∙◌, subst, ℕ, ◌<◌, ◌≤◌, inl, inr, Bool, true, false, not, List, [], ◌∷◌, ◌++◌, map, length, Option, Some, None, option_map, arith, append_assoc, append-nil, length-append, cond, min, ltb-true}
use Rattle.std.specs.Prelude.{slice_get, nat_lt, ◌==◌, ◌^◌, ◌-◌}
use Rattle.std.specs.Option.{option_or}
use Rattle.std.specs.List.{list_all}
use Rattle.std.proofs.lemmas.Bool.{and_parts, and_from, cases_lt}
use Rattle.std.proofs.lemmas.Bool.Decides.{Decides-eqb}
use Rattle.std.proofs.lemmas.List.{map-append, nil_from_length}
use Rattle.std.proofs.lemmas.Option.{slice_get_past}
use Rattle.verdicts.specs.Numbers.{saturated}
use Rattle.vocab.specs.declared.literals.Literal.{Literal}
use Rattle.vocab.specs.Literal.{opposite_of}
use Rattle.vocab.specs.Size.{Extent}
use Rattle.vocab.specs.Study.{Question}
use Rattle.meaning.specs.declared.stories.Reason.{Reason}
use Rattle.meaning.specs.declared.stories.Reason.TheVariants.{Axiom as ByAxiom, Outcome as ByOutcome, Lemma as ByLemma}
use Rattle.meaning.specs.declared.stories.StoryFault.{StoryFault}
use Rattle.meaning.specs.declared.stories.StoryFault.TheVariants.{Supposes, Later, NotForced}
use Rattle.meaning.specs.declared.stories.StoryStep.{StoryStep}
use Rattle.meaning.specs.declared.stories.Lemma.{Lemma}
use Rattle.meaning.specs.Literals.{is_literal}
use Rattle.meaning.specs.Stories.{is_claim_false, has_literals}
use Rattle.meaning.specs.StoryFaults.{unless, literal_fault, reason_fault}
use Rattle.verdicts.specs.declared.refusals.Refusal.{Refusal}
use Rattle.verdicts.specs.Lines.{Suppose, So, Clash}
use Rattle.verdicts.specs.Places.{Place, AtSuppose, AtLemma, Standing}
use Rattle.verdicts.specs.Faults.{refusal_of, known_of, is_last_lemma, cite_fault, fault_of}
use Rattle.verdicts.specs.Judge.{after_witness, after_lemma, advance}
use Rattle.verdicts.proofs.FewLaws.{lemmas_few}
use Rattle.verdicts.proofs.JudgeLaws.{good_holds}
use Rattle.verdicts.proofs.RangeLaws.{are_supposed, good_in_range}
use Rattle.verdicts.proofs.SoundLaws.{Holds}
use Rattle.verdicts.proofs.StepLaws.{reasons_same, lengths_same}
use Rattle.report_lines.specs.declared.places.Place.TheVariants as place
use Rattle.report_lines.specs.Held.{held_place, held_reason}
use Rattle.story.specs.Lines.{supposition_fault, step_fault}
use Rattle.worlds.specs.Boards.{Known}
use Rattle.report.specs.declared.judging.Judging.{Judging}
use Rattle.report.specs.Stands.{Stands, IsRead, supposed}

-- ---- numbers

-- whether a lemma was the last
was_last : (n m k c : ℕ) → n ≡ m → n ≤ 4294967295 → k ≡ saturated c → n ≡ k → (m == c) ≡ true
was_last n m k c e l h a = (Decides-eqb m c).1 (omega (arith, a, e, l, h))

-- ---- faults

module _ (o : Option StoryFault) (f : Option Refusal) (same : f ≡ option_map refusal_of o) where
  -- a fault is answered
  pub refused : (e : StoryFault) (word : Refusal) → o ≡ Some e → word ≡ refusal_of e → Some word ≡ f
  refused e word g w = ap Some w ∙ sym (same ∙ ap (option_map refusal_of) g)

  -- or there is none
  pub accepted : o ≡ None → None ≡ f
  accepted g = sym (same ∙ ap (option_map refusal_of) g)

-- ---- reasons

-- the lemma that a reason cites, where it is held at the end of `u32`
held_at : (es : List Lemma) (j : ℕ) → length es ≤ 4294967295 → (nat_lt (min j (2 ^ 32 - 1)) (length es) ≡ nat_lt j (length es)) × (slice_get es (min j (2 ^ 32 - 1)) ≡ slice_get es j)
held_at es j l = elim (cases_lt j (length es)) [
  | inl lt ↦ let same : min j (2 ^ 32 - 1) ≡ j = omega (arith, lt, l) in (ap (λ k. nat_lt k (length es)) same, ap (slice_get es) same)
  | inr ge ↦
      let past : length es ≤ min j (2 ^ 32 - 1) = omega (arith, ge, l) in
      (not_less past ∙ sym (not_less ge), slice_get_past es (min j (2 ^ 32 - 1)) past ∙ sym (slice_get_past es j ge))
]
  where
    not_less : {k : ℕ} → length es ≤ k → nat_lt k (length es) ≡ false
    not_less {k} le = by_test (nat_lt k (length es)) refl
      where
        by_test : (b : Bool) → nat_lt k (length es) ≡ b → b ≡ false
        by_test true e = absurd (omega (arith, le, ltb-true k (length es) e))
        by_test false e = refl

module _ (study : Question) where
  held_cites : (core : List ℕ) (es : List Lemma) (known : List Literal) (w : Reason) → length es ≤ 4294967295 → reason_fault study.size study.axioms core es known (held_reason w) ≡ reason_fault study.size study.axioms core es known w
  held_cites core es known (ByAxiom k values) l = refl
  held_cites core es known (ByOutcome p) l = refl
  held_cites core es known (ByLemma j) l =
      let p = held_at es j l in
      ap₂ (λ b o. option_or (unless b Later) (unless (is_claim_false known o) NotForced)) p.0 p.1

  -- what is held of lemmas has literals of the size
  have_literals : (es bs : List Lemma) → supposed es ≡ supposed bs → list_all (λ lemma. length lemma.steps == 0) es ≡ true → list_all (are_supposed study) bs ≡ true → list_all (has_literals study.size) es ≡ true
  have_literals [] bs e a h = refl
  have_literals (x ∷ es) [] e a h = absurd (cc)
  have_literals (x ∷ es) (b ∷ bs) e a h =
      let first : x.suppose ≡ b.suppose = cc in
      let rest : supposed es ≡ supposed bs = cc in
      let p = and_parts (length x.steps == 0) (list_all (λ lemma. length lemma.steps == 0) es) a in
      let q = and_parts (are_supposed study b) (list_all (are_supposed study) bs) h in
      let own : list_all (is_literal study.size) x.suppose ≡ true = subst (λ (ls : List Literal). list_all (is_literal study.size) ls ≡ true) (sym first) q.0 in
      and_from _ _ (and_from _ _ own (no_steps x.steps p.0)) (have_literals es bs rest p.1 q.1)
    where
      no_steps : (steps : List StoryStep) → (length steps == 0) ≡ true → list_all (λ step. is_literal study.size step.literal) steps ≡ true
      no_steps [] t = refl
      no_steps (y ∷ ys) t = absurd (omega (arith, (Decides-eqb (length (y ∷ ys)) 0).0 t))

at_suppose : (p : Place) → held_place p ≡ place.AtSuppose → p ≡ AtSuppose
at_suppose AtSuppose e = refl
at_suppose p e = absurd (cc)

-- the standing with the present lemma among the earlier ones
abbrev pub told : Standing → Reason → Standing
told s w = record s { earlier = s.earlier ++ record { suppose = s.suppose; steps = s.steps; last = w } ∷ []; suppose = []; steps = [] }

module _ (study : Question) (r : Judging) where
  -- what the callees ask
  pub earlier_there : IsRead study r → (size : Extent) (es : List Lemma) → study.size ≡ size → es ≡ r.earlier → list_all (has_literals size) es ≡ true
  earlier_there i size es same slice =
      let here = have_literals study r.earlier i.standing.earlier i.stands.earlier i.stands.alone (good_in_range study i.standing i.lines i.good).earlier in
      ap₂ (λ (n : Extent) (ls : List Lemma). list_all (has_literals n) ls) (sym same) slice ∙ here

  -- there is room for one lemma more
  pub few_earlier : IsRead study r → length r.earlier < 4294967295
  few_earlier i =
      let same : length r.earlier ≡ length i.standing.earlier = lengths_same study r.earlier i.standing.earlier i.stands.earlier in
      omega (arith, same, lemmas_few study i.lines i.standing i.good, i.few)

  module _ (s : Standing) (h : Stands study r s) where
    few_lemmas : length r.earlier ≡ length s.earlier
    few_lemmas = lengths_same study r.earlier s.earlier h.earlier

    -- ---- a supposition

    pub suppose_fault_is : (l : Literal) (final : Bool) → final ≡ is_last_lemma s → fault_of study s (Suppose l) ≡ option_map refusal_of (supposition_fault final r.board.literals l)
    suppose_fault_is l final e = ap₂ (λ b known. option_map refusal_of (option_or (unless (not b) Supposes) (literal_fault known l))) (sym e) (sym h.known)

    -- before the first step there is none
    pub no_step_yet : IsRead study r → s.place ≡ AtSuppose → map (λ step. step.literal) s.steps ≡ []
    no_step_yet i p =
        let t : Standing = i.standing in
        let at : t.place ≡ AtSuppose = at_suppose t.place (sym i.stands.place ∙ h.place ∙ ap held_place p) in
        let holds : Holds study AtSuppose t = subst (λ q. Holds study q t) at (good_holds study t i.lines i.good) in
        let none : map (λ step. step.literal) t.steps ≡ [] = ap (map (λ (step : StoryStep). step.literal)) holds.1 in
        let same : known_of t ≡ known_of s = sym i.stands.known ∙ h.known in
        let left : t.suppose ≡ s.suppose = sym i.stands.suppose ∙ h.suppose in
        let count : length (t.suppose ++ []) ≡ length (s.suppose ++ map (λ (step : StoryStep). step.literal) s.steps) = ap (λ (ls : List Literal). length (t.suppose ++ ls)) (sym none) ∙ ap length same in
        nil_from_length _ (omega (arith, count, length-append t.suppose [], length-append s.suppose (map (λ (step : StoryStep). step.literal) s.steps), ap length left))

    pub with_supposed : (l : Literal) (xs : List Literal) (b : Known) → map (λ step. step.literal) s.steps ≡ [] → xs ≡ r.suppose ++ l ∷ [] → b.size ≡ r.board.size → b.literals ≡ r.board.literals ++ l ∷ [] →
        Stands study (record r { suppose = xs; board = b }) (advance study s (Suppose l))
    with_supposed l xs b none e size known = record {
      place = h.place;
      version = h.version;
      rows = h.rows;
      core = h.core;
      count = h.count;
      earlier = h.earlier;
      alone = h.alone;
      few = h.few;
      suppose = e ∙ ap (λ (ls : List Literal). ls ++ l ∷ []) h.suppose;
      size = size ∙ h.size;
      known = known ∙ ap (λ (ls : List Literal). ls ++ l ∷ []) (h.known ∙ ap (λ (ls : List Literal). s.suppose ++ ls) none ∙ append-nil s.suppose) ∙ sym (ap (λ (ls : List Literal). (s.suppose ++ l ∷ []) ++ ls) none ∙ append-nil (s.suppose ++ l ∷ []));
      witnesses = h.witnesses;
    }

    -- ---- a step

    cited : (known : List Literal) (w : Reason) → reason_fault study.size study.axioms r.core r.earlier known (held_reason w) ≡ cite_fault study s known w
    cited known w =
        held_cites study r.core r.earlier known w h.few
        ∙ reasons_same study r.core r.earlier s.earlier known w h.earlier
        ∙ ap (λ (core : List ℕ). reason_fault study.size study.axioms core s.earlier known w) h.core

    -- as a callee sees it: the size is its kind's, and the lemmas are those of a slice
    pub step_fault_is : (l : Literal) (given w : Reason) (size : Extent) (es : List Lemma) → given ≡ held_reason w → study.size ≡ size → es ≡ r.earlier →
        fault_of study s (So l w) ≡ option_map refusal_of (step_fault size study.axioms r.core es r.board.literals (record { literal = l; reason = given }))
    step_fault_is l given w size es e same slice =
        sym (ap (λ (n : Extent). option_map refusal_of (step_fault n study.axioms r.core es r.board.literals (record { literal = l; reason = given }))) (sym same)
        ∙ ap₂ (λ (ls : List Lemma) (g : Reason). option_map refusal_of (step_fault study.size study.axioms r.core ls r.board.literals (record { literal = l; reason = g }))) slice e
        ∙ ap (λ (known : List Literal). option_map refusal_of (option_or (literal_fault known l) (reason_fault study.size study.axioms r.core r.earlier (known ++ opposite_of l ∷ []) (held_reason w)))) h.known
        ∙ ap (λ o. option_map refusal_of (option_or (literal_fault (known_of s) l) o)) (cited (known_of s ++ opposite_of l ∷ []) w))

    pub with_step : (l : Literal) (w : Reason) (b : Known) → b.size ≡ r.board.size → b.literals ≡ r.board.literals ++ l ∷ [] → Stands study (record r { place = place.AtStep; board = b }) (advance study s (So l w))
    with_step l w b size known = record {
      place = refl;
      version = h.version;
      rows = h.rows;
      core = h.core;
      count = h.count;
      earlier = h.earlier;
      alone = h.alone;
      few = h.few;
      suppose = h.suppose;
      size = size ∙ h.size;
      known = known ∙ ap (λ (ls : List Literal). ls ++ l ∷ []) h.known ∙ append_assoc s.suppose (map (λ (step : StoryStep). step.literal) s.steps) (l ∷ [])
          ∙ ap (λ (ls : List Literal). s.suppose ++ ls) (sym (map-append (λ (step : StoryStep). step.literal) s.steps (record { literal = l; reason = w } ∷ [])));
      witnesses = h.witnesses;
    }

    -- ---- the end of a lemma

    pub clash_fault_is : (given w : Reason) (size : Extent) (es : List Lemma) → given ≡ held_reason w → study.size ≡ size → es ≡ r.earlier →
        fault_of study s (Clash w) ≡ option_map refusal_of (reason_fault size study.axioms r.core es r.board.literals given)
    clash_fault_is given w size es e same slice =
        sym (ap (λ (n : Extent). option_map refusal_of (reason_fault n study.axioms r.core es r.board.literals given)) (sym same)
        ∙ ap₂ (λ (ls : List Lemma) (g : Reason). option_map refusal_of (reason_fault study.size study.axioms r.core ls r.board.literals g)) slice e
        ∙ ap (λ (known : List Literal). option_map refusal_of (reason_fault study.size study.axioms r.core r.earlier known (held_reason w))) h.known
        ∙ ap (option_map refusal_of) (cited (known_of s) w))

    -- ---- after a lemma

    pub all_told : (t : Judging) → length r.earlier ≡ r.count → Stands study t (after_witness s) → Stands study t (after_lemma s)
    all_told t e g = subst (λ b. Stands study t (cond b (after_witness s) (record s { place = AtLemma }))) (sym (was_last (length r.earlier) (length s.earlier) r.count s.count few_lemmas h.few h.count e)) g
