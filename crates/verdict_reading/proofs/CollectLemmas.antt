-- One more line: the parts that it gives, and where the verdict is read.
use Rattle.std.proofs.Common.{◌≡◌, refl, sym, ap, ◌∙◌, subst, ℕ, ◌+◌, ◌-◌, ◌^◌, ◌<◌, ◌≤◌, min, Bool, true, false, cond, ◌&&◌, List, [], ◌∷◌, ◌++◌, length, Option, Some, None, Ok, Err, arith, ltb-true}
use Rattle.std.specs.Prelude.{◌==◌, nat_lt}
use Rattle.std.proofs.lemmas.Bool.{eqb-true}
use Rattle.lists.proofs.OptionLaws.{none_of_either, none_of_map}
use Rattle.vocab.specs.declared.kinds.Sort.TheVariants.{Profile}
use Rattle.vocab.specs.declared.literals.Literal.{Literal}
use Rattle.vocab.specs.Size.{sort_count}
use Rattle.vocab.specs.Study.{Question}
use Rattle.meaning.specs.declared.cores.Witness.TheVariants.{Rule, Open as OpenMark}
use Rattle.meaning.specs.declared.stories.Lemma.{Lemma}
use Rattle.meaning.specs.declared.stories.Reason.{Reason}
use Rattle.meaning.specs.declared.stories.Reason.TheVariants.{Axiom as ByAxiom, Outcome as ByOutcome, Lemma as ByLemma}
use Rattle.meaning.specs.declared.stories.StoryFault.{StoryFault}
use Rattle.meaning.specs.declared.stories.StoryFault.TheVariants.{Later}
use Rattle.meaning.specs.StoryFaults.{unless, reason_fault}
use Rattle.verdicts.specs.declared.refusals.Refusal.{Refusal}
use Rattle.verdicts.specs.declared.refusals.Refusal.TheVariants as refusal
use Rattle.verdicts.specs.declared.verdicts.Verdict.{Verdict}
use Rattle.verdicts.specs.declared.verdicts.Verdict.TheVariants.{Possible, Impossible, Undecided}
use Rattle.verdicts.specs.Lines.{Line, Title, KindIs, VotersAre, AlternativesAre, BallotsAre, AbsentIs, AxiomsAre, SaysPossible, SaysImpossible, SaysUndecided, RuleOf, Row, CoreIs, LemmasAre, Heading, Suppose, So, Clash, WithRule, WithOpen, End}
use Rattle.verdicts.specs.Texts.{words_of}
use Rattle.verdicts.specs.Places.{Place, Standing, AtTitle, AtKind, AtVoters, AtAlternatives, AtBallots, AtAbsent, AtAxioms, AtVerdict, AtLimit, AtRule, AtRow, AtCore, AtLemmas, AtLemma, AtSuppose, AtStep, AtWitness, AtWitnessRow, AtEnd, AtNothing, wanted}
use Rattle.verdicts.specs.Faults.{refusal_of, next_core, fault_of}
use Rattle.verdicts.specs.Judge.{advance, after_row, after_lemma, after_witness, witness_place}
use Rattle.verdicts.proofs.FitLaws.{Fits, wanted_fits}
use Rattle.verdicts.proofs.JudgeLaws.{not_long}
use Rattle.verdicts.proofs.SoundLaws.{none_unless}
use Rattle.verdicts.proofs.StepLaws.{lengths_same}
use Rattle.report_lines.specs.declared.lines.Line.{Line as HeldLine}
use Rattle.report_lines.specs.Held.{held_line, held_place, held_reason}
use Rattle.report.specs.declared.judging.Judging.{Judging}
use Rattle.report.specs.Taken.{IsTaken}
use Rattle.verdict_reading.specs.declared.collector.Collector.{Collector}
use Rattle.verdict_reading.specs.declared.parts.Parts.{Parts}
use Rattle.verdict_reading.specs.Parts.{parts_of, is_witness_row, with_lemma, with_table, with_row, with_line}
use Rattle.verdict_reading.specs.Collected.{IsMadeOf, EndsAt, Collects, IsCollected}

-- ---- reasons

passes : (b : Bool) (fault : StoryFault) → unless b fault ≡ None → b ≡ true
passes true fault e = refl
passes false fault e = absurd (cc)

-- a reason that is given for a line without a fault is held as it is
reason_same : (study : Question) (core : List ℕ) (es : List Lemma) (known : List Literal) (r : Reason) → length es ≤ 4294967295
    → reason_fault study.size study.axioms core es known r ≡ None → held_reason r ≡ r
reason_same study core es known (ByAxiom k values) few e = refl
reason_same study core es known (ByOutcome p) few e = refl
reason_same study core es known (ByLemma j) few e =
    let first = (none_of_either _ _ e).0 in
    let less : j < length es = ltb-true j (length es) (passes (nat_lt j (length es)) Later first) in
    let same : min j (2 ^ 32 - 1) ≡ j = omega (arith, less, few) in
    ap ByLemma same

-- ---- the parts

module _ (study : Question) where
  abbrev P : ℕ
  P = sort_count study.size Profile

  row_next : (p : Place) (s : Standing) (o : ℕ) → with_row P (is_witness_row (held_place p)) o (parts_of s) ≡ parts_of (after_row study p (record s { rows = s.rows ++ o ∷ [] }))
  row_next AtWitnessRow s o = by_test (length (s.rows ++ o ∷ []) == P)
    where
      by_test : (b : Bool) → with_table (true && b) (s.rows ++ o ∷ []) (parts_of s)
          ≡ parts_of (cond b (after_witness (record s { rows = []; witnesses = s.witnesses ++ Rule (s.rows ++ o ∷ []) ∷ [] })) (record s { rows = s.rows ++ o ∷ [] }))
      by_test true = refl
      by_test false = refl
  row_next p s o = by_test (length (s.rows ++ o ∷ []) == P)
    where
      by_test : (b : Bool) → with_table false (s.rows ++ o ∷ []) (parts_of s)
          ≡ parts_of (cond b (record s { rows = s.rows ++ o ∷ []; place = AtEnd (Possible (s.rows ++ o ∷ [])) }) (record s { rows = s.rows ++ o ∷ [] }))
      by_test true = refl
      by_test false = refl

  lemma_next : (t : Standing) → parts_of (after_lemma t) ≡ parts_of t
  lemma_next t = by_test (length t.earlier == t.count)
    where
      by_test : (b : Bool) → parts_of (cond b (after_witness t) (record t { place = AtLemma })) ≡ parts_of t
      by_test true = refl
      by_test false = refl

  -- a line without a fault gives the parts that are held with it
  pub part_next : (s : Standing) (w : Line) → length s.earlier ≤ 4294967295 → fault_of study s w ≡ None
      → with_line P study.conflicts (is_witness_row (held_place s.place)) (held_line study w) (parts_of s) ≡ parts_of (advance study s w)
  part_next s (Row p o) few e = row_next s.place s o
  part_next s (So l r) few e =
      let second = (none_of_either _ _ (none_of_map refusal_of _ e)).1 in
      ap (λ (x : Reason). record (parts_of s) { steps = s.steps ++ record { literal = l; reason = x } ∷ [] }) (reason_same study _ _ _ r few second)
  part_next s (Clash r) few e =
      ap (λ (x : Reason). with_lemma x (parts_of s)) (reason_same study _ _ _ r few (none_of_map refusal_of _ e))
      ∙ sym (lemma_next (record s { earlier = s.earlier ++ record { suppose = s.suppose; steps = s.steps; last = r } ∷ []; suppose = []; steps = [] }))
  part_next s (WithOpen name n) few e =
      let second = (none_of_either _ _ e).1 in
      let same : n ≡ study.conflicts = eqb-true n study.conflicts (none_unless (n == study.conflicts) refusal.OpenMark second) in
      ap (λ m. record (parts_of s) { witnesses = s.witnesses ++ OpenMark m ∷ [] }) (sym same)
  part_next s w few e = refl

  -- ---- where the verdict is read

  abbrev at : Place → Standing → Standing
  at p s = record s { place = p }

  abbrev Ends : Standing → Type 0
  Ends s = EndsAt s.place s

  to_witness : (t : Standing) → Ends (after_witness t)
  to_witness t = by_next (next_core t)
    where
      by_next : (n : Option ℕ) → Ends (record t { place = witness_place n (Impossible t.core t.earlier t.witnesses) })
      by_next None = (refl, refl, refl)
      by_next (Some k) = tt

  to_lemma : (t : Standing) → Ends (after_lemma t)
  to_lemma t = by_test (length t.earlier == t.count)
    where
      by_test : (b : Bool) → Ends (cond b (after_witness t) (record t { place = AtLemma }))
      by_test true = to_witness t
      by_test false = tt

  to_rule : (t : Standing) → t.place ≡ AtRow → Ends (after_row study AtRow t)
  to_rule t at_row = by_test (length t.rows == P)
    where
      by_test : (b : Bool) → Ends (cond b (record t { place = AtEnd (Possible t.rows) }) t)
      by_test true = refl
      by_test false = subst (λ p. EndsAt p t) (sym at_row) tt

  to_mark : (t : Standing) → t.place ≡ AtWitnessRow → Ends (after_row study AtWitnessRow t)
  to_mark t at_row = by_test (length t.rows == P)
    where
      by_test : (b : Bool) → Ends (cond b (after_witness (record t { rows = []; witnesses = t.witnesses ++ Rule t.rows ∷ [] })) t)
      by_test true = to_witness (record t { rows = []; witnesses = t.witnesses ++ Rule t.rows ∷ [] })
      by_test false = subst (λ p. EndsAt p t) (sym at_row) tt

  to_nothing : (v : Verdict) (s : Standing) → IsMadeOf v s → IsMadeOf v (at (AtNothing v) s)
  to_nothing (Possible table) s h = h
  to_nothing (Impossible core story witnesses) s h = h
  to_nothing Undecided s h = absurd h

  ends_line : (n : ℕ) (p : Place) (s : Standing) (w : Line) → EndsAt p s → Fits study p n w → fault_of study (at p s) w ≡ None → Ends (advance study (at p s) w)
  ends_line n AtTitle s (Title version) h f e = tt
  ends_line n AtKind s (KindIs k) h f e = tt
  ends_line n AtVoters s (VotersAre m) h f e = tt
  ends_line n AtAlternatives s (AlternativesAre m) h f e = by_test (s.version == 2)
    where
      by_test : (b : Bool) → Ends (record s { place = cond b AtBallots AtAxioms })
      by_test true = tt
      by_test false = tt
  ends_line n AtBallots s (BallotsAre places) h f e = tt
  ends_line n AtAbsent s (AbsentIs absent) h f e = tt
  ends_line n AtAxioms s (AxiomsAre names) h f e = tt
  ends_line n AtVerdict s SaysPossible h f e = tt
  ends_line n AtVerdict s SaysImpossible h f e = tt
  ends_line n AtVerdict s SaysUndecided h f e = absurd (cc)
  ends_line n AtLimit s w h f e = absurd h
  ends_line n AtRule s (RuleOf m) h f e = tt
  ends_line n AtRow s (Row p o) h f e = to_rule (record s { place = AtRow; rows = s.rows ++ o ∷ [] }) refl
  ends_line n AtCore s (CoreIs names) h f e = tt
  ends_line n AtLemmas s (LemmasAre m) h f e = tt
  ends_line n AtLemma s (Heading m) h f e = tt
  ends_line n AtSuppose s (Suppose l) h f e = tt
  ends_line n AtSuppose s (So l r) h f e = tt
  ends_line n AtSuppose s (Clash r) h f e = to_lemma (record s { earlier = s.earlier ++ record { suppose = s.suppose; steps = s.steps; last = r } ∷ []; suppose = []; steps = [] })
  ends_line n AtStep s (So l r) h f e = tt
  ends_line n AtStep s (Clash r) h f e = to_lemma (record s { earlier = s.earlier ++ record { suppose = s.suppose; steps = s.steps; last = r } ∷ []; suppose = []; steps = [] })
  ends_line n AtWitness s (WithRule name m) h f e = tt
  ends_line n AtWitness s (WithOpen name m) h f e = to_witness (record s { witnesses = s.witnesses ++ OpenMark m ∷ [] })
  ends_line n AtWitnessRow s (Row p o) h f e = to_mark (record s { place = AtWitnessRow; rows = s.rows ++ o ∷ [] }) refl
  ends_line n (AtEnd v) s End h f e = to_nothing v s h
  ends_line n p s w h f e = absurd f

  -- ---- one line

  module _ (s : Standing) (text : List ℕ) (c : Collector) (h : Collects study c s) where
    -- it is collected
    pub collected : (told : Judging) (parts : Parts) (line : HeldLine) (count limit : ℕ) (of_witness : Bool) → IsTaken study s text told (Ok line)
        → count ≡ P → limit ≡ study.conflicts → of_witness ≡ is_witness_row (held_place s.place) → parts ≡ with_line count limit of_witness line c.parts
        → IsCollected study s text (record { told = told; parts = parts }) None
    collected told parts line count limit of_witness t counts limits rows given =
        let w = t.0 in
        let same = lengths_same study c.told.earlier s.earlier h.told.earlier in
        let few : length s.earlier ≤ 4294967295 = (let most = h.told.few in omega (arith, same, most)) in
        let fits = wanted_fits study s.place (length s.earlier + 1) (words_of text) w (not_long (nat_lt 4096 (length text)) (wanted study s.place (length s.earlier + 1) (words_of text)) w t.1) in
        let parts_are : parts ≡ parts_of (advance study s w) =
        given
        ∙ ap (λ n. with_line n limit of_witness line c.parts) counts
        ∙ ap (λ n. with_line P n of_witness line c.parts) limits
        ∙ ap (λ b. with_line P study.conflicts b line c.parts) rows
        ∙ ap (λ (l : HeldLine). with_line P study.conflicts (is_witness_row (held_place s.place)) l c.parts) t.2
        ∙ ap (λ (q : Parts). with_line P study.conflicts (is_witness_row (held_place s.place)) (held_line study w) q) h.parts
        ∙ part_next s w few t.3 in
        (w, t.1, t.3, record { told = t.4; parts = parts_are; ends = ends_line (length s.earlier + 1) s.place s w h.ends fits t.3 })

    -- it is refused
    pub refused : (told : Judging) (word : Refusal) (after : Collector) → IsTaken study s text told (Err word) → IsCollected study s text after (Some word)
    refused told word after t = t
