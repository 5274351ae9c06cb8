-- One more line of a sharp text: the parts that it gives.
use Rattle.std.proofs.Common.{◌≡◌, refl, sym, ap, ◌∙◌, ℕ, ◌+◌, ◌≤◌, Bool, true, false, true≢false, cond, ◌&&◌, List, [], ◌∷◌, ◌++◌, length, Option, Some, None, Ok, Err, arith}
use Rattle.std.specs.Prelude.{◌==◌}
use Rattle.std.specs.Option.{option_or}
use Rattle.std.proofs.lemmas.Bool.{eqb-true}
use Rattle.lists.proofs.OptionLaws.{none_of_map}
use Rattle.vocab.specs.declared.kinds.Sort.TheVariants.{Profile}
use Rattle.vocab.specs.Size.{sort_count}
use Rattle.vocab.specs.Study.{Question}
use Rattle.meaning.specs.declared.cores.Witness.{Witness}
use Rattle.meaning.specs.declared.cores.Witness.TheVariants.{Rule, Open as OpenMark}
use Rattle.verdicts.specs.declared.refusals.Refusal.TheVariants as refusal
use Rattle.verdicts.specs.Lines.{Line, Row, WithOpen, End}
use Rattle.verdicts.specs.Places.{Place, AtRow, AtWitness, AtWitnessRow}
use Rattle.verdicts.specs.Faults.{fault_of}
use Rattle.verdicts.specs.Judge.{advance}
use Rattle.verdicts.proofs.FitLaws.{Fits}
use Rattle.verdicts.proofs.StepLaws.{lengths_same}
use Rattle.report_lines.specs.Held.{held_line, held_place}
use Rattle.sharp_verdicts.specs.declared.refusals.SharpRefusal.{SharpRefusal}
use Rattle.sharp_verdicts.specs.declared.refusals.SharpRefusal.TheVariants.{Report}
use Rattle.sharp_verdicts.specs.SharpFaults.{listed_instances, sharp_fault}
use Rattle.sharp_verdicts.specs.SharpJudge.{after_mark, advance_sharp}
use Rattle.sharp_verdicts.specs.SharpLines.{SharpLine, SharpTitle, Plain, InstancesAre, NeedsRule, NeedsOpen}
use Rattle.sharp_verdicts.specs.SharpPlaces.{SharpPlace, AtSharp, AtReport, AtInstances, AtNeed, AtNeedRow, AtSharpEnd, SharpStanding, is_story_read}
use Rattle.sharp_laws.proofs.FitLaws.{SharpFits, line_fits}
use Rattle.sharp_laws.proofs.SoundLaws.{none_unless}
use Rattle.sharp_report.specs.declared.judging.SharpJudging.{SharpJudging}
use Rattle.sharp_report.specs.declared.lines.SharpLine.{SharpLine as HeldLine}
use Rattle.sharp_report.specs.SharpStands.{held_sharp_place, held_sharp_line, is_before_story, HoldsAt, IsSharpTaken}
use Rattle.verdict_reading.specs.declared.parts.Parts.{Parts}
use Rattle.verdict_reading.specs.declared.sharp_collector.SharpCollector.{SharpCollector}
use Rattle.verdict_reading.specs.Parts.{parts_of, is_witness_row, with_table, with_open, with_line, sharp_parts_of, is_mark_row, with_sharp_line}
use Rattle.verdict_reading.specs.SharpCollected.{SharpCollects, IsSharpCollected}
use Rattle.verdict_reading.proofs.CollectLemmas.{part_next}

-- ---- faults

none_second : {A : Type 0} (o p : Option A) → option_or o p ≡ None → p ≡ None
none_second None p e = e
none_second (Some w) p e = absurd (cc)

-- ---- lines of the story

-- a line that is no row and no open mark
abbrev IsOfStory : Line → Type 0
IsOfStory (Row p o) = ⊥
IsOfStory (WithOpen name n) = ⊥
IsOfStory w = Unit {0}

-- parts with other rows and witnesses
abbrev swap : List ℕ → List Witness → Parts → Parts
swap rows witnesses q = record q { rows = rows; witnesses = witnesses }

-- such a line leaves these as they are
others_stay : (study : Question) (count limit : ℕ) (b d : Bool) (w : Line) (rows : List ℕ) (marks : List Witness) (q : Parts) → IsOfStory w
    → with_line count limit b (held_line study w) (swap rows marks q) ≡ swap rows marks (with_line count limit d (held_line study w) q)
others_stay study count limit b d (Row p o) rows marks q h = absurd h
others_stay study count limit b d (WithOpen name n) rows marks q h = absurd h
others_stay study count limit b d w rows marks q h = refl

no_row : (study : Question) (p : Place) (n x o : ℕ) → is_before_story p ≡ true → Fits study p n (Row x o) → ⊥
no_row study AtRow n x o t f = true≢false (sym t)
no_row study AtWitnessRow n x o t f = true≢false (sym t)
no_row study p n x o t f = f

no_open : (study : Question) (p : Place) (n : ℕ) (name : List ℕ) (m : ℕ) → is_before_story p ≡ true → Fits study p n (WithOpen name m) → ⊥
no_open study AtWitness n name m t f = true≢false (sym t)
no_open study p n name m t f = f

of_story : (study : Question) (p : Place) (n : ℕ) (w : Line) → is_before_story p ≡ true → Fits study p n w → IsOfStory w
of_story study p n (Row x o) t f = no_row study p n x o t f
of_story study p n (WithOpen name m) t f = no_open study p n name m t f
of_story study p n w t f = tt

-- ---- the parts

module _ (study : Question) where
  abbrev P : ℕ
  P = sort_count study.size Profile

  abbrev at : SharpPlace → SharpStanding → SharpStanding
  at p s = record s { place = p }

  -- a line without a fault gives the parts that are held with it
  sharp_part_next : (p : SharpPlace) (s : SharpStanding) (r : SharpJudging) (l : SharpLine) → length s.told.earlier ≤ 4294967295 → SharpFits study p s.told l
      → HoldsAt study p r (at p s) → sharp_fault study (at p s) l ≡ None
      → with_sharp_line P study.conflicts (is_mark_row (held_sharp_place p)) (held_sharp_line study l) (sharp_parts_of (at p s)) ≡ sharp_parts_of (advance_sharp study (at p s) l)
  sharp_part_next AtSharp s r SharpTitle few f h e = refl
  sharp_part_next AtReport s r (Plain w) few f h e =
      let none : fault_of study s.told w ≡ None = none_of_map Report (fault_of study s.told w) e in
      others_stay study P study.conflicts false (is_witness_row (held_place s.told.place)) w [] s.marks (parts_of s.told) (of_story study s.told.place (length s.told.earlier + 1) w h.0 f.0)
      ∙ ap (swap [] s.marks) (part_next study s.told w few none)
      ∙ by_test (is_story_read (advance study s.told w).place)
    where
      by_test : (b : Bool) → swap [] s.marks (parts_of (advance study s.told w)) ≡ sharp_parts_of (record s { told = advance study s.told w; place = cond b AtInstances AtReport })
      by_test true = refl
      by_test false = refl
  sharp_part_next AtInstances s r (InstancesAre n) few f h e = by_test (length s.marks == length (listed_instances study s))
    where
      by_test : (b : Bool) → sharp_parts_of (at AtInstances s) ≡ sharp_parts_of (record s { place = cond b AtSharpEnd AtNeed; rows = [] })
      by_test true = refl
      by_test false = refl
  sharp_part_next AtNeed s r (NeedsRule q n) few f h e = ap (λ (rows : List ℕ). swap rows s.marks (parts_of s.told)) (sym h.1)
  sharp_part_next AtNeed s r (NeedsOpen q n) few f h e =
      let same : n ≡ study.conflicts = eqb-true n study.conflicts (none_unless (n == study.conflicts) (Report refusal.OpenMark) (none_second _ _ e)) in
      ap (λ m. with_open m (sharp_parts_of (at AtNeed s))) (sym same)
      ∙ by_test (length (s.marks ++ OpenMark n ∷ []) == length (listed_instances study s))
    where
      by_test : (b : Bool) → with_open n (sharp_parts_of (at AtNeed s)) ≡ sharp_parts_of (record s { marks = s.marks ++ OpenMark n ∷ []; place = cond b AtSharpEnd AtNeed; rows = [] })
      by_test true = refl
      by_test false = refl
  sharp_part_next AtNeedRow s r (Plain (Row x o)) few f h e = by_test (length (s.rows ++ o ∷ []) == P)
    where
      by_end : (b : Bool) → with_table true (s.rows ++ o ∷ []) (sharp_parts_of (at AtNeedRow s))
          ≡ sharp_parts_of (record s { marks = s.marks ++ Rule (s.rows ++ o ∷ []) ∷ []; place = cond b AtSharpEnd AtNeed; rows = [] })
      by_end true = refl
      by_end false = refl

      by_test : (b : Bool) → with_table (true && b) (s.rows ++ o ∷ []) (sharp_parts_of (at AtNeedRow s))
          ≡ sharp_parts_of (cond b (after_mark study (record s { place = AtNeedRow; rows = s.rows ++ o ∷ []; marks = s.marks ++ Rule (s.rows ++ o ∷ []) ∷ [] })) (record s { place = AtNeedRow; rows = s.rows ++ o ∷ [] }))
      by_test true = by_end (length (s.marks ++ Rule (s.rows ++ o ∷ []) ∷ []) == length (listed_instances study s))
      by_test false = refl
  sharp_part_next AtSharpEnd s r (Plain End) few f h e = refl
  sharp_part_next p s r l few f h e = absurd f

  -- ---- one line

  module _ (s : SharpStanding) (text : List ℕ) (c : SharpCollector) (h : SharpCollects study c s) where
    -- it is collected
    pub sharp_collected : (told : SharpJudging) (parts : Parts) (line : HeldLine) (count limit : ℕ) (of_mark : Bool) → IsSharpTaken study s text told (Ok line)
        → count ≡ P → limit ≡ study.conflicts → of_mark ≡ is_mark_row (held_sharp_place s.place) → parts ≡ with_sharp_line count limit of_mark line c.parts
        → IsSharpCollected study s text (record { told = told; parts = parts }) None
    sharp_collected told parts line count limit of_mark t counts limits rows given =
        let l = t.0 in
        let same = lengths_same study c.told.told.earlier s.told.earlier h.told.told.earlier in
        let few : length s.told.earlier ≤ 4294967295 = (let most = h.told.told.few in omega (arith, same, most)) in
        let parts_are : parts ≡ sharp_parts_of (advance_sharp study s l) =
        given
        ∙ ap (λ n. with_sharp_line n limit of_mark line c.parts) counts
        ∙ ap (λ n. with_sharp_line P n of_mark line c.parts) limits
        ∙ ap (λ b. with_sharp_line P study.conflicts b line c.parts) rows
        ∙ ap (λ (x : HeldLine). with_sharp_line P study.conflicts (is_mark_row (held_sharp_place s.place)) x c.parts) t.2
        ∙ ap (λ (q : Parts). with_sharp_line P study.conflicts (is_mark_row (held_sharp_place s.place)) (held_sharp_line study l) q) h.parts
        ∙ sharp_part_next s.place s c.told l few (line_fits study s text l t.1).0 h.told.at t.3 in
        (l, t.1, t.3, record { told = t.4; parts = parts_are }, t.5)

    -- it is refused
    pub sharp_refused : (told : SharpJudging) (word : SharpRefusal) (after : SharpCollector) → IsSharpTaken study s text told (Err word) → IsSharpCollected study s text after (Some word)
    sharp_refused told word after t = t
