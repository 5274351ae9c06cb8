-- Lines without a fault are the lines of a sharp verdict that is right so far.
use Rattle.std.proofs.Common.{◌≡◌, refl, sym, ap, ap₂, ◌∙◌, subst, ℕ, ◌+◌, ◌<◌, Bool, true, false, List, [], ◌∷◌, ◌++◌, map, length, Option, Some, None, arith, true≢false, cond, append_assoc, length-append, lt-ltb, eqb-true}
use Rattle.std.specs.Prelude.{◌==◌, nat_lt, slice_get}
use Rattle.std.specs.List.{list_all}
use Rattle.std.specs.Option.{option_map_or}
use Rattle.std.proofs.lemmas.Bool.{and_parts, and_from}
use Rattle.std.proofs.lemmas.List.{map-append}
use Rattle.lists.proofs.TestLaws.{all_snoc}
use Rattle.lists.proofs.PlaceLaws.{there_is, head_same}
use Rattle.vocab.specs.declared.kinds.Sort.TheVariants.{Profile}
use Rattle.vocab.specs.Size.{outcome_count, sort_count}
use Rattle.vocab.specs.Study.{Question}
use Rattle.meaning.specs.declared.cores.Witness.{Witness}
use Rattle.meaning.specs.declared.cores.Witness.TheVariants.{Rule, Open}
use Rattle.meaning.specs.declared.stories.Reason.{Reason}
use Rattle.meaning.specs.declared.stories.Reason.TheVariants.{Axiom as ByAxiom}
use Rattle.meaning.specs.Cores.{is_core_from}
use Rattle.meaning.specs.Stories.{is_story}
use Rattle.meaning.specs.Truth.{is_rule}
use Rattle.verdicts.specs.declared.refusals.Refusal.TheVariants as refusal
use Rattle.verdicts.specs.declared.verdicts.Verdict.TheVariants.{Impossible}
use Rattle.verdicts.specs.Faults.{fault_of, next_core}
use Rattle.verdicts.specs.Lines.{Line, Title, KindIs, VotersAre, AlternativesAre, BallotsAre, AbsentIs, AxiomsAre, SaysPossible, SaysImpossible, SaysUndecided, Row, CoreIs, LemmasAre, Heading, Suppose, So, Clash, End, name_at}
use Rattle.verdicts.specs.Places.{Place, AtTitle, AtKind, AtVoters, AtAlternatives, AtBallots, AtAbsent, AtAxioms, AtVerdict, AtLimit, AtRule, AtRow, AtCore, AtLemmas, AtLemma, AtSuppose, AtStep, AtWitness, AtWitnessRow, AtEnd, AtNothing, Standing, start}
use Rattle.verdicts.specs.Report.{row_lines, story_lines, head_lines, all_witness_lines, verdict_lines, is_right, own_version}
use Rattle.verdicts.specs.Judge.{witness_place, after_witness, after_lemma, advance}
use Rattle.verdicts.proofs.PrefixLaws.{rows_snoc}
use Rattle.verdicts.proofs.FitLaws.{Fits}
use Rattle.verdicts.proofs.SoundLaws.{printed, IsIdle, Holds, HasRead, step_read_so}
use Rattle.sharp_verdicts.specs.declared.instances.Cited.{Cited}
use Rattle.sharp_verdicts.specs.declared.refusals.SharpRefusal.{SharpRefusal}
use Rattle.sharp_verdicts.specs.declared.refusals.SharpRefusal.TheVariants.{Report, Instance}
use Rattle.sharp_verdicts.specs.Instances.{others_than, is_axiom_told, cites, instances_of, core_of}
use Rattle.sharp_verdicts.specs.Right.{is_mark}
use Rattle.sharp_verdicts.specs.SharpLines.{SharpLine, SharpTitle, Plain, InstancesAre, NeedsRule, NeedsOpen, after_first, reason_at, mark_lines, all_mark_lines}
use Rattle.sharp_verdicts.specs.SharpPlaces.{SharpPlace, AtSharp, AtReport, AtInstances, AtNeed, AtNeedRow, AtSharpEnd, AtSharpNothing, SharpStanding, is_story_read}
use Rattle.sharp_verdicts.specs.SharpFaults.{unless_of, next_instance, instance_fault, instances_fault, others_asked, sharp_fault}
use Rattle.sharp_verdicts.specs.SharpJudge.{after_mark, after_report, advance_sharp}
use Rattle.sharp_laws.proofs.FitLaws.{IsSaid, IsCited, SharpFits}
use Rattle.sharp_laws.proofs.CoreLaws.{core_is_cited}
use Rattle.sharp_laws.proofs.TableLaws.{true_from}
use Rattle.sharp_laws.proofs.MarkLaws.{are_marks, marks_within, marks_snoc, no_marks, lines_snoc, reason_same}
use Rattle.lists.proofs.NumberLaws.{less_of}
use Rattle.lists.proofs.OptionLaws.{none_of_either, none_of_map}

-- ---- where there is no fault

pub none_unless : (b : Bool) (w : SharpRefusal) → unless_of b w ≡ None → b ≡ true
none_unless true w e = refl
none_unless false w e = absurd (cc)

none_test : (b : Bool) (o : Option SharpRefusal) → cond b o None ≡ None → b ≡ true → o ≡ None
none_test true o e t = e
none_test false o e t = absurd (true≢false (sym t))

version_same : (a b : ℕ) → Title a ≡ Title b → a ≡ b
version_same a b e = cc

module _ (study : Question) where
  abbrev P : ℕ
  P = sort_count study.size Profile

  abbrev K : ℕ
  K = outcome_count study.size.kind study.size.alternatives

  -- ---- the story

  -- the lines of a story that is read, after the first
  abbrev pub part : Standing → List Line
  part s = after_first (head_lines study (own_version study)) ++ verdict_lines study (Impossible s.core s.earlier [])

  -- no verdict is read but an impossibility, and no witness of it
  abbrev OnStory : Place → Standing → Type 0
  OnStory AtTitle s = ⊥
  OnStory AtLimit s = ⊥
  OnStory AtRule s = ⊥
  OnStory AtRow s = ⊥
  OnStory AtWitnessRow s = ⊥
  OnStory (AtNothing v) s = ⊥
  OnStory (AtEnd v) s = (s.witnesses ≡ []) × (v ≡ Impossible s.core s.earlier [])
  OnStory p s = s.witnesses ≡ []

  abbrev at : Place → Standing → Standing
  at p s = record s { place = p }

  alternatives_next : (s : Standing) → s.witnesses ≡ [] → (b : Bool) → OnStory (cond b AtBallots AtAxioms) (at (cond b AtBallots AtAxioms) s)
  alternatives_next s h true = h
  alternatives_next s h false = h

  witness_next : (s : Standing) → s.witnesses ≡ [] → OnStory (after_witness s).place (after_witness s)
  witness_next s h = by_next (next_core s)
    where
      by_next : (o : Option ℕ) → OnStory (witness_place o (Impossible s.core s.earlier s.witnesses)) (at (witness_place o (Impossible s.core s.earlier s.witnesses)) s)
      by_next None = (h, ap (λ (ws : List Witness). Impossible s.core s.earlier ws) h)
      by_next (Some k) = h

  lemma_next : (s : Standing) → s.witnesses ≡ [] → OnStory (after_lemma s).place (after_lemma s)
  lemma_next s h = by_test (length s.earlier == s.count)
    where
      by_test : (b : Bool) → OnStory (cond b (after_witness s) (at AtLemma s)).place (cond b (after_witness s) (at AtLemma s))
      by_test true = witness_next s h
      by_test false = h

  -- the standing after the last reason of a lemma
  abbrev closed_lemma : Standing → Reason → Standing
  closed_lemma s r = record s { earlier = s.earlier ++ record { suppose = s.suppose; steps = s.steps; last = r } ∷ []; suppose = []; steps = [] }

  story_next : (p : Place) (s : Standing) (l : Line) → OnStory p s → is_story_read p ≡ false → Fits study p (length s.earlier + 1) l → IsSaid l
      → fault_of study (at p s) l ≡ None → OnStory (advance study (at p s) l).place (advance study (at p s) l)
  story_next AtTitle s l h r f said e = absurd h
  story_next AtLimit s l h r f said e = absurd h
  story_next AtRule s l h r f said e = absurd h
  story_next AtRow s l h r f said e = absurd h
  story_next AtWitnessRow s l h r f said e = absurd h
  story_next (AtNothing v) s l h r f said e = absurd h
  story_next AtWitness s l h r f said e = absurd (true≢false r)
  story_next (AtEnd v) s l h r f said e = absurd (true≢false r)
  story_next AtKind s (KindIs k) h r f said e = h
  story_next AtVoters s (VotersAre n) h r f said e = h
  story_next AtAlternatives s (AlternativesAre n) h r f said e = alternatives_next s h (s.version == 2)
  story_next AtBallots s (BallotsAre places) h r f said e = h
  story_next AtAbsent s (AbsentIs absent) h r f said e = h
  story_next AtAxioms s (AxiomsAre names) h r f said e = h
  story_next AtVerdict s SaysPossible h r f said e = absurd (cc)
  story_next AtVerdict s SaysImpossible h r f said e = h
  story_next AtVerdict s SaysUndecided h r f said e = absurd (cc)
  story_next AtCore s (CoreIs names) h r f said e = h
  story_next AtLemmas s (LemmasAre n) h r f said e = h
  story_next AtLemma s (Heading n) h r f said e = h
  story_next AtSuppose s (Suppose l) h r f said e = h
  story_next AtSuppose s (So l reason) h r f said e = h
  story_next AtSuppose s (Clash reason) h r f said e = lemma_next (closed_lemma (at AtSuppose s) reason) h
  story_next AtStep s (So l reason) h r f said e = h
  story_next AtStep s (Clash reason) h r f said e = lemma_next (closed_lemma (at AtStep s) reason) h
  story_next p s l h r f said e = absurd f

  -- the story is accepted over its core, and these are its lines
  pub record IsStoryRead (s : Standing) (ls : List Line) : Type 0 where
    pub accepted : is_story study.size study.axioms s.core s.earlier ≡ true
    pub places : is_core_from 0 (length study.axioms) s.core ≡ true
    pub lines : ls ≡ part s

  abbrev told_lines : ℕ → Standing → List Line
  told_lines count s = SaysImpossible ∷ CoreIs (map (name_at study.axioms) s.core) ∷ LemmasAre count ∷ story_lines 1 s.earlier

  story_at : (p : Place) (s : Standing) (ls : List Line) → Holds study p s → printed study p s ≡ Title (own_version study) ∷ ls → OnStory p s → is_story_read p ≡ true → IsStoryRead s ls
  story_at AtWitness s ls h e on r =
      let told = h.0 in
      let own : s.version ≡ own_version study = version_same s.version (own_version study) (head_same (Title s.version) (Title (own_version study)) _ ls e) in
      record {
        accepted = told.story;
        places = told.core;
        lines = ap after_first (sym e)
            ∙ ap (λ v. after_first ((head_lines study v ++ told_lines s.count s) ++ all_witness_lines study s.core s.witnesses)) own
            ∙ ap (λ n. after_first ((head_lines study (own_version study) ++ told_lines n s) ++ all_witness_lines study s.core s.witnesses)) (sym told.all)
            ∙ ap (λ (ws : List Witness). after_first ((head_lines study (own_version study) ++ told_lines (length s.earlier) s) ++ all_witness_lines study s.core ws)) on
            ∙ append_assoc (after_first (head_lines study (own_version study))) (told_lines (length s.earlier) s) (all_witness_lines study s.core []);
      }
  story_at (AtEnd v) s ls h e on r =
      let right = and_parts (is_story study.size study.axioms s.core s.earlier) _ (subst (λ w. is_right study w ≡ true) on.1 h.0.0) in
      let own : s.version ≡ own_version study = version_same s.version (own_version study) (head_same (Title s.version) (Title (own_version study)) _ ls e) in
      record {
        accepted = right.0;
        places = (and_parts (is_core_from 0 (length study.axioms) s.core) _ right.1).0;
        lines = ap after_first (sym e)
            ∙ ap (λ n. after_first (head_lines study n ++ verdict_lines study v)) own
            ∙ ap (λ w. after_first (head_lines study (own_version study) ++ verdict_lines study w)) on.1;
      }
  story_at AtTitle s ls h e on r = absurd on
  story_at p s ls h e on r = absurd (true≢false (sym r))

  -- lines of the story are read, all of them right
  pub record IsReading (told : Standing) (ls : List Line) : Type 0 where
    pub read : HasRead study told (Title (own_version study) ∷ ls)
    pub on : OnStory told.place told

  -- ---- the marks

  abbrev begun : Standing → List SharpLine
  begun told = SharpTitle ∷ map Plain (part told)

  abbrev listed_in : Standing → List Cited
  listed_in told = instances_of study told.earlier

  abbrev with_marks : Standing → List Witness → List SharpLine
  with_marks told marks = begun told ++ InstancesAre (length (listed_in told)) ∷ all_mark_lines study (listed_in told) marks

  -- the story is accepted over what it cites, and the marks so far are right
  pub record IsMarked (told : Standing) (ms : List Witness) : Type 0 where
    pub accepted : is_story study.size study.axioms told.core told.earlier ≡ true
    pub core : told.core ≡ core_of study told.earlier
    pub marks : are_marks (is_mark study (listed_in told)) (listed_in told) ms ≡ true

  abbrev IsNext : SharpStanding → Cited → Type 0
  IsNext s c = slice_get (listed_in s.told) (length s.marks) ≡ Some c

  -- what holds of the parts at a place, and which lines are read
  abbrev pub SharpHolds : SharpPlace → SharpStanding → List SharpLine → Type 0
  SharpHolds AtSharp s lines = (s.told ≡ start) × (s.marks ≡ []) × (s.rows ≡ []) × (lines ≡ [])
  SharpHolds AtReport s lines =
      (ls : List Line) × IsReading s.told ls × (is_story_read s.told.place ≡ false) × (s.marks ≡ []) × (s.rows ≡ [])
      × (lines ≡ SharpTitle ∷ map Plain ls)
  SharpHolds AtInstances s lines =
      (is_story study.size study.axioms s.told.core s.told.earlier ≡ true) × (is_core_from 0 (length study.axioms) s.told.core ≡ true)
      × (s.marks ≡ []) × (lines ≡ begun s.told)
  SharpHolds AtNeed s lines = IsMarked s.told s.marks × (s.rows ≡ []) × (c : Cited) × IsNext s c × (lines ≡ with_marks s.told s.marks)
  SharpHolds AtNeedRow s lines =
      IsMarked s.told s.marks × (list_all (λ o. nat_lt o K) s.rows ≡ true) × (c : Cited) × IsNext s c
      × (lines ≡ with_marks s.told s.marks ++ NeedsRule (reason_at study c) P ∷ map Plain (row_lines 0 s.rows))
  SharpHolds AtSharpEnd s lines = IsMarked s.told s.marks × (length s.marks ≡ length (listed_in s.told)) × (lines ≡ with_marks s.told s.marks)
  SharpHolds AtSharpNothing s lines =
      IsMarked s.told s.marks × (length s.marks ≡ length (listed_in s.told)) × (lines ≡ with_marks s.told s.marks ++ Plain End ∷ [])

  abbrev pub HasSharpRead : SharpStanding → List SharpLine → Type 0
  HasSharpRead s lines = SharpHolds s.place s lines

  abbrev stand : SharpPlace → SharpStanding → SharpStanding
  stand p s = record s { place = p }

  -- after a line of the story
  to_report : (s : SharpStanding) (ls : List Line) (lines : List SharpLine) → IsReading s.told ls → s.marks ≡ [] → s.rows ≡ []
      → lines ≡ SharpTitle ∷ map Plain ls → HasSharpRead (after_report study s) lines
  to_report s ls lines h marks rows e = by_test (is_story_read s.told.place) refl
    where
      by_test : (b : Bool) → is_story_read s.told.place ≡ b → HasSharpRead (stand (cond b AtInstances AtReport) s) lines
      by_test true t =
          let r = story_at s.told.place s.told ls h.read.0 h.read.1 h.on t in
          (r.accepted, r.places, marks, e ∙ ap (λ xs. SharpTitle ∷ map Plain xs) r.lines)
      by_test false t = (ls, h, t, marks, rows, e)

  -- after a mark, or where none is wanted
  to_mark : (s : SharpStanding) (lines : List SharpLine) → IsMarked s.told s.marks → lines ≡ with_marks s.told s.marks → HasSharpRead (after_mark study s) lines
  to_mark s lines h e = by_test (length s.marks == length (listed_in s.told)) refl
    where
      by_test : (b : Bool) → (length s.marks == length (listed_in s.told)) ≡ b → HasSharpRead (record s { place = cond b AtSharpEnd AtNeed; rows = [] }) lines
      by_test true t = (h, eqb-true _ _ t, e)
      by_test false t =
          let within = marks_within (is_mark study (listed_in s.told)) (listed_in s.told) s.marks h.marks in
          let next = there_is (listed_in s.told) (length s.marks) (less_of _ _ within t) in
          (h, refl, next.0, next.1, e)

  marked_more : (told : Standing) (marks : List Witness) (c : Cited) (m : Witness) → IsMarked told marks → slice_get (listed_in told) (length marks) ≡ Some c
      → is_mark study (listed_in told) c m ≡ true → IsMarked told (marks ++ m ∷ [])
  marked_more told marks c m h next right = record {
    accepted = h.accepted;
    core = h.core;
    marks = marks_snoc (is_mark study (listed_in told)) (listed_in told) marks c m next h.marks right;
  }

  marks_more : (told : Standing) (marks : List Witness) (c : Cited) (m : Witness) → slice_get (listed_in told) (length marks) ≡ Some c
      → with_marks told marks ++ mark_lines study c m ≡ with_marks told (marks ++ m ∷ [])
  marks_more told marks c m next =
      let count = InstancesAre (length (listed_in told)) in
      append_assoc (begun told) (count ∷ all_mark_lines study (listed_in told) marks) (mark_lines study c m)
      ∙ ap (λ ls. begun told ++ count ∷ ls) (sym (lines_snoc study (listed_in told) marks c m next))

  -- ---- lines

  title_line : (s : SharpStanding) (lines : List SharpLine) → SharpHolds AtSharp s lines → HasSharpRead (advance_sharp study (stand AtSharp s) SharpTitle) (lines ++ SharpTitle ∷ [])
  title_line s lines h = to_report (record s { place = AtSharp; told = advance study s.told (Title (own_version study)) }) [] (lines ++ SharpTitle ∷ []) reading h.1 h.2 (ap (λ ls. ls ++ SharpTitle ∷ []) h.3)
    where
      idle : IsIdle study (advance study start (Title (own_version study)))
      idle = record { rows = refl; earlier = refl; suppose = refl; steps = refl; witnesses = refl }

      first : IsReading (advance study start (Title (own_version study))) []
      first = record { read = (idle, refl); on = refl }

      reading : IsReading (advance study s.told (Title (own_version study))) []
      reading = subst (λ (t : Standing). IsReading (advance study t (Title (own_version study))) []) (sym h.0) first

  report_line : (s : SharpStanding) (lines : List SharpLine) (k : Line) → SharpHolds AtReport s lines → SharpFits study AtReport s.told (Plain k)
      → sharp_fault study (stand AtReport s) (Plain k) ≡ None → HasSharpRead (advance_sharp study (stand AtReport s) (Plain k)) (lines ++ Plain k ∷ [])
  report_line s lines k (ls, reading, more_lines, marks, rows, e) f fault =
      let none = none_of_map Report (fault_of study s.told k) fault in
      let more : IsReading (advance study s.told k) (ls ++ k ∷ []) = record {
        read = step_read_so study s.told k (Title (own_version study) ∷ ls) reading.read f.0 none;
        on = story_next s.told.place s.told k reading.on more_lines f.0 f.1 none;
      } in
      to_report (record s { place = AtReport; told = advance study s.told k }) (ls ++ k ∷ []) (lines ++ Plain k ∷ []) more marks rows
      (ap (λ x. x ++ Plain k ∷ []) e ∙ ap (λ x. SharpTitle ∷ x) (sym (map-append Plain ls (k ∷ []))))

  instances_line : (s : SharpStanding) (lines : List SharpLine) (n : ℕ) → SharpHolds AtInstances s lines
      → sharp_fault study (stand AtInstances s) (InstancesAre n) ≡ None → HasSharpRead (advance_sharp study (stand AtInstances s) (InstancesAre n)) (lines ++ InstancesAre n ∷ [])
  instances_line s lines n (accepted, places, empty, e) fault =
      let f = none_of_either (unless_of (list_all (is_axiom_told s.told.earlier) s.told.core) (Report refusal.Core)) _ fault in
      let told = none_unless (list_all (is_axiom_told s.told.earlier) s.told.core) (Report refusal.Core) f.0 in
      let count : n ≡ length (listed_in s.told) = eqb-true n _ (none_unless (n == length (listed_in s.told)) Instance f.1) in
      let marked : IsMarked s.told s.marks = record {
        accepted = accepted;
        core = core_is_cited study s.told.core s.told.earlier places accepted told;
        marks = subst (λ (ms : List Witness). are_marks (is_mark study (listed_in s.told)) (listed_in s.told) ms ≡ true) (sym empty) refl;
      } in
      to_mark (stand AtInstances s) (lines ++ InstancesAre n ∷ []) marked
      (ap₂ (λ (x : List SharpLine) (m : ℕ). x ++ InstancesAre m ∷ []) e count
      ∙ ap (λ ls. begun s.told ++ InstancesAre (length (listed_in s.told)) ∷ ls) (sym (no_marks study (listed_in s.told)))
      ∙ ap (with_marks s.told) (sym empty))

  -- the instance on a line is the next
  next_cited : (o : Option Cited) (c : Cited) (k : ℕ) (values : List ℕ) → o ≡ Some c → IsCited study (ByAxiom k values) → instance_fault study o (ByAxiom k values) ≡ None
      → reason_at study c ≡ ByAxiom k values
  next_cited None c k values e f fault = absurd (cc)
  next_cited (Some d) c k values e f fault =
      let same : d ≡ c = cc in
      ap (reason_at study) (sym same) ∙ reason_same study d k values f (none_unless (cites study d (ByAxiom k values)) Instance fault)

  rule_line : (s : SharpStanding) (lines : List SharpLine) (k : ℕ) (values : List ℕ) (n : ℕ) → SharpHolds AtNeed s lines → IsCited study (ByAxiom k values)
      → sharp_fault study (stand AtNeed s) (NeedsRule (ByAxiom k values) n) ≡ None
      → HasSharpRead (advance_sharp study (stand AtNeed s) (NeedsRule (ByAxiom k values) n)) (lines ++ NeedsRule (ByAxiom k values) n ∷ [])
  rule_line s lines k values n (marked, empty, c, next, e) f fault =
      let g = none_of_either (instance_fault study (next_instance study s) (ByAxiom k values)) _ fault in
      let reason = next_cited (next_instance study s) c k values next f g.0 in
      let count : n ≡ P = eqb-true n P (none_unless (n == P) (Report refusal.Row) g.1) in (
        marked,
        subst (λ (os : List ℕ). list_all (λ o. nat_lt o K) os ≡ true) (sym empty) refl,
        c,
        next,
        ap₂ (λ (x : List SharpLine) (m : ℕ). x ++ NeedsRule (ByAxiom k values) m ∷ []) e count
            ∙ ap (λ r. with_marks s.told s.marks ++ NeedsRule r P ∷ []) (sym reason)
            ∙ ap (λ (os : List ℕ). with_marks s.told s.marks ++ NeedsRule (reason_at study c) P ∷ map Plain (row_lines 0 os)) (sym empty),
      )

  open_line : (s : SharpStanding) (lines : List SharpLine) (k : ℕ) (values : List ℕ) (n : ℕ) → SharpHolds AtNeed s lines → IsCited study (ByAxiom k values)
      → sharp_fault study (stand AtNeed s) (NeedsOpen (ByAxiom k values) n) ≡ None
      → HasSharpRead (advance_sharp study (stand AtNeed s) (NeedsOpen (ByAxiom k values) n)) (lines ++ NeedsOpen (ByAxiom k values) n ∷ [])
  open_line s lines k values n (marked, empty, c, next, e) f fault =
      let g = none_of_either (instance_fault study (next_instance study s) (ByAxiom k values)) _ fault in
      let reason = next_cited (next_instance study s) c k values next f g.0 in
      let limit = none_unless (n == study.conflicts) (Report refusal.OpenMark) g.1 in
      to_mark (record s { place = AtNeed; marks = s.marks ++ Open n ∷ [] }) (lines ++ NeedsOpen (ByAxiom k values) n ∷ []) (marked_more s.told s.marks c (Open n) marked next limit)
      (ap₂ (λ (x : List SharpLine) (r : Reason). x ++ NeedsOpen r n ∷ []) e (sym reason) ∙ marks_more s.told s.marks c (Open n) next)

  -- ---- rows

  row_line : (s : SharpStanding) (lines : List SharpLine) (p o : ℕ) → SharpHolds AtNeedRow s lines → o < K
      → sharp_fault study (stand AtNeedRow s) (Plain (Row p o)) ≡ None → HasSharpRead (advance_sharp study (stand AtNeedRow s) (Plain (Row p o))) (lines ++ Plain (Row p o) ∷ [])
  row_line s lines p o (marked, inside, c, next, e) l fault =
      let f = none_of_either (unless_of (p == length s.rows) (Report refusal.Row)) _ fault in
      let same : p ≡ length s.rows = eqb-true p (length s.rows) (none_unless (p == length s.rows) (Report refusal.Row) f.0) in
      let longer : length table ≡ length s.rows + 1 = length-append s.rows (o ∷ []) in
      let rows : map Plain (row_lines 0 s.rows) ++ Plain (Row p o) ∷ [] ≡ map Plain (row_lines 0 table) =
      sym (map-append Plain (row_lines 0 s.rows) (Row p o ∷ []))
      ∙ ap (λ q. map Plain (row_lines 0 s.rows ++ Row q o ∷ [])) (same ∙ zero_more (length s.rows))
      ∙ ap (map Plain) (sym (rows_snoc 0 s.rows o)) in
      let all : lines ++ Plain (Row p o) ∷ [] ≡ with_marks s.told s.marks ++ NeedsRule (reason_at study c) P ∷ map Plain (row_lines 0 table) =
      ap (λ x. x ++ Plain (Row p o) ∷ []) e
      ∙ append_assoc (with_marks s.told s.marks) (NeedsRule (reason_at study c) P ∷ map Plain (row_lines 0 s.rows)) (Plain (Row p o) ∷ [])
      ∙ ap (λ ls. with_marks s.told s.marks ++ NeedsRule (reason_at study c) P ∷ ls) rows in
      by_test (length table == P) refl (all_snoc (λ o. nat_lt o K) s.rows o inside (lt-ltb o K l)) all (λ t. none_test (length s.rows + 1 == P) _ f.1 (ap (λ n. n == P) (sym longer) ∙ t))
    where
      table : List ℕ
      table = s.rows ++ o ∷ []

      zero_more : (n : ℕ) → n ≡ 0 + n
      zero_more n = omega arith

      after : SharpStanding
      after = record s { place = AtNeedRow; rows = table }

      whole : SharpStanding
      whole = record after { marks = s.marks ++ Rule table ∷ [] }

      by_test : (b : Bool) → (length table == P) ≡ b → list_all (λ o. nat_lt o K) table ≡ true
          → lines ++ Plain (Row p o) ∷ [] ≡ with_marks s.told s.marks ++ NeedsRule (reason_at study c) P ∷ map Plain (row_lines 0 table)
          → ((length table == P) ≡ true → instances_fault study table (others_asked study s) ≡ None)
          → HasSharpRead (cond b (after_mark study whole) after) (lines ++ Plain (Row p o) ∷ [])
      by_test true t inside all none =
          let others : instances_fault study table (others_than (listed_in s.told) c) ≡ None =
          subst (λ o. instances_fault study table (option_map_or (others_than (listed_in s.told)) o []) ≡ None) next (none t) in
          let rule : is_rule study.size table ≡ true = and_from _ _ t inside in
          let right = and_from _ _ rule (true_from study table (others_than (listed_in s.told) c) others) in
          to_mark whole (lines ++ Plain (Row p o) ∷ []) (marked_more s.told s.marks c (Rule table) marked next right) (all ∙ marks_more s.told s.marks c (Rule table) next)
      by_test false t inside all none = (marked, inside, c, next, all)

  -- a line without a fault
  sharp_step : (p : SharpPlace) (s : SharpStanding) (l : SharpLine) (lines : List SharpLine) → SharpHolds p s lines → SharpFits study p s.told l
      → sharp_fault study (stand p s) l ≡ None → HasSharpRead (advance_sharp study (stand p s) l) (lines ++ l ∷ [])
  sharp_step AtSharp s SharpTitle lines h f e = title_line s lines h
  sharp_step AtReport s (Plain k) lines h f e = report_line s lines k h f e
  sharp_step AtInstances s (InstancesAre n) lines h f e = instances_line s lines n h e
  sharp_step AtNeed s (NeedsRule (ByAxiom k values) n) lines h f e = rule_line s lines k values n h f e
  sharp_step AtNeed s (NeedsOpen (ByAxiom k values) n) lines h f e = open_line s lines k values n h f e
  sharp_step AtNeedRow s (Plain (Row p o)) lines h f e = row_line s lines p o h f.1 e
  sharp_step AtSharpEnd s (Plain End) lines h f e = (h.0, h.1, ap (λ x. x ++ Plain End ∷ []) h.2)
  sharp_step p s l lines h f e = absurd f

  pub sharp_step_read : (s : SharpStanding) (l : SharpLine) (lines : List SharpLine) → HasSharpRead s lines → SharpFits study s.place s.told l
      → sharp_fault study s l ≡ None → HasSharpRead (advance_sharp study s l) (lines ++ l ∷ [])
  sharp_step_read s l lines h f e = sharp_step s.place s l lines h f e
