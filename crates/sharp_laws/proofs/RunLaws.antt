-- The judge finds no fault in the lines of a right sharp verdict.
use Rattle.std.proofs.Common.{◌≡◌, refl, sym, ap, ap₂, ◌∙◌, subst, ℕ, suc, ◌+◌, ◌<◌, Bool, true, false, ◌&&◌, List, [], ◌∷◌, ◌++◌, map, length, Option, Some, None, option_map, arith, true≢false, cond, append_assoc, append-nil, length-append, eqb-true, ltb-true, eq-eqb, ne_eqb}
use Rattle.std.specs.Prelude.{◌==◌, nat_lt, slice_get}
use Rattle.std.specs.List.{list_all}
use Rattle.std.specs.Option.{option_or, option_map_or}
use Rattle.std.specs.Cmp.Lexicographic.{pointwise}
use Rattle.std.proofs.lemmas.Bool.{and_parts, and_from}
use Rattle.std.proofs.lemmas.Option.{slice_get_within}
use Rattle.lists.proofs.TestLaws.{kept_pass}
use Rattle.vocab.specs.declared.kinds.Sort.TheVariants.{Profile}
use Rattle.vocab.specs.declared.literals.Literal.{Literal}
use Rattle.vocab.specs.Size.{ballot_places, outcome_count, sort_count}
use Rattle.vocab.specs.Study.{Question}
use Rattle.meaning.specs.declared.cores.Witness.{Witness}
use Rattle.meaning.specs.declared.cores.Witness.TheVariants.{Rule, Open}
use Rattle.meaning.specs.declared.stories.Lemma.{Lemma}
use Rattle.meaning.specs.declared.stories.StoryStep.{StoryStep}
use Rattle.meaning.specs.Cores.{is_core_from, is_witness}
use Rattle.meaning.specs.Stories.{is_story}
use Rattle.meaning.specs.Truth.{is_rule}
use Rattle.meaning.proofs.SpaceLaws.{some_profile as size_has_profile}
use Rattle.meaning.proofs.TestLaws.{list_all-both}
use Rattle.verdicts.specs.declared.refusals.Refusal.TheVariants as refusal
use Rattle.verdicts.specs.declared.verdicts.Verdict.{Verdict}
use Rattle.verdicts.specs.declared.verdicts.Verdict.TheVariants.{Impossible}
use Rattle.verdicts.specs.Faults.{next_after}
use Rattle.verdicts.specs.Laws.{IsReportable}
use Rattle.verdicts.specs.Lines.{Line, Title, SaysPossible, BallotsAre, AbsentIs, AxiomsAre, KindIs, VotersAre, AlternativesAre, Row, Heading, Suppose, Clash, WithRule, WithOpen, End}
use Rattle.verdicts.specs.Places.{Place, AtWitness, AtEnd, Standing, start}
use Rattle.verdicts.specs.Report.{row_lines, step_line, lemma_lines, story_lines, head_lines, all_witness_lines, is_lemma_text, is_right, own_version}
use Rattle.verdicts.specs.Judge.{witness_place, advance}
use Rattle.verdicts.proofs.FitLaws.{Fits}
use Rattle.verdicts.proofs.RightLaws.{right_has_text}
use Rattle.verdicts.proofs.ReportLaws.{own_allowed}
use Rattle.verdicts.proofs.CompleteLaws.{allowed_known, told_lines, Runs, runs_append, head_run, told_run, told, at_verdict}
use Rattle.sharp_verdicts.specs.declared.instances.Cited.{Cited}
use Rattle.sharp_verdicts.specs.declared.refusals.SharpRefusal.{SharpRefusal}
use Rattle.sharp_verdicts.specs.declared.refusals.SharpRefusal.TheVariants.{Report, Instance}
use Rattle.sharp_verdicts.specs.Instances.{others_than, is_axiom_told, instances_of, is_true_of}
use Rattle.sharp_verdicts.specs.Right.{Pointed, is_mark, IsSharpRight}
use Rattle.sharp_verdicts.specs.SharpLines.{SharpLine, SharpTitle, Plain, InstancesAre, after_first, reason_at, mark_lines, all_mark_lines, story_part, sharp_lines}
use Rattle.sharp_verdicts.specs.SharpPlaces.{SharpPlace, AtReport, AtInstances, AtNeed, AtNeedRow, AtSharpEnd, AtSharpNothing, SharpStanding, sharp_start, is_story_read}
use Rattle.sharp_verdicts.specs.SharpFaults.{unless_of, next_instance, instance_fault, instances_fault, sharp_fault}
use Rattle.sharp_verdicts.specs.SharpJudge.{advance_sharp, pointed_of}
use Rattle.sharp_laws.proofs.FitLaws.{IsSaid, SharpFits}
use Rattle.sharp_laws.proofs.CoreLaws.{cited_is_core}
use Rattle.sharp_laws.proofs.TableLaws.{none_from}
use Rattle.sharp_laws.proofs.MarkLaws.{reason_cites, next_present}
use Rattle.sharp_laws.proofs.TextLaws.{is_sharp_plain}
use Rattle.verdicts.proofs.PrefixLaws.{no_witness}

-- ---- lines up to the last lemma

-- a line that stands before the end of the story
abbrev is_told_line : Line → Bool
is_told_line SaysPossible = false
is_told_line (WithRule name n) = false
is_told_line (WithOpen name n) = false
is_told_line End = false
is_told_line l = true

told_said : (l : Line) → is_told_line l ≡ true → IsSaid l
told_said SaysPossible t = absurd (true≢false (sym t))
told_said l t = refl

told_fits : (study : Question) (p : Place) (n : ℕ) (l : Line) → Fits study p n l → is_told_line l ≡ true → is_story_read p ≡ false
told_fits study AtWitness n (WithRule name k) f t = absurd (true≢false (sym t))
told_fits study AtWitness n (WithOpen name k) f t = absurd (true≢false (sym t))
told_fits study (AtEnd v) n End f t = absurd (true≢false (sym t))
told_fits study AtWitness n l f t = absurd f
told_fits study (AtEnd v) n l f t = absurd f
told_fits study p n l f t = refl

suppositions_told : (ls : List Literal) → list_all is_told_line (map Suppose ls) ≡ true
suppositions_told [] = refl
suppositions_told (l ∷ ls) = suppositions_told ls

steps_told : (steps : List StoryStep) → list_all is_told_line (map step_line steps) ≡ true
steps_told [] = refl
steps_told (step ∷ steps) = steps_told steps

story_is_told : (n : ℕ) (story : List Lemma) → list_all is_told_line (story_lines n story) ≡ true
story_is_told n [] = refl
story_is_told n (lemma ∷ story) =
    list_all-both is_told_line (lemma_lines n lemma) (story_lines (n + 1) story)
    (list_all-both is_told_line (Heading n ∷ map Suppose lemma.suppose ++ map step_line lemma.steps) (Clash lemma.last ∷ [])
    (list_all-both is_told_line (Heading n ∷ map Suppose lemma.suppose) (map step_line lemma.steps) (suppositions_told lemma.suppose) (steps_told lemma.steps)) refl)
    (story_is_told (n + 1) story)

head_is_told : (study : Question) (version : ℕ) → list_all is_told_line (after_first (head_lines study version)) ≡ true
head_is_told study version = by_test (version == 2)
  where
    by_test : (b : Bool)
        → list_all is_told_line (after_first ((Title version ∷ KindIs study.size.kind ∷ VotersAre study.size.voters ∷ AlternativesAre study.size.alternatives ∷ []) ++ cond b (BallotsAre (ballot_places study.size) ∷ AbsentIs study.size.absent ∷ []) [] ++ AxiomsAre (map (λ a. a.name) study.axioms) ∷ [])) ≡ true
    by_test true = refl
    by_test false = refl

read_place : (o : Option ℕ) (v : Verdict) → is_story_read (witness_place o v) ≡ true
read_place None v = refl
read_place (Some k) v = refl

-- ---- a verdict with open marks alone, whose report has the same lines up to the last lemma

abbrev pub opens : Question → List ℕ → List Witness
opens study core = map (λ k. Open study.conflicts) core

opens_right : (study : Question) (whole core : List ℕ) → pointwise (is_witness study.size study.axioms study.conflicts whole) core (opens study core) ≡ true
opens_right study whole [] = refl
opens_right study whole (k ∷ core) = and_from _ _ (eq-eqb study.conflicts study.conflicts refl) (opens_right study whole core)

pub open_is_right : (study : Question) (core : List ℕ) (story : List Lemma) → is_story study.size study.axioms core story ≡ true → is_core_from 0 (length study.axioms) core ≡ true
    → is_right study (Impossible core story (opens study core)) ≡ true
open_is_right study core story accepted places = and_from _ _ accepted (and_from _ _ places (opens_right study core core))

module _ (study : Question) (is : IsReportable study) where
  abbrev P : ℕ
  P = sort_count study.size Profile

  abbrev K : ℕ
  K = outcome_count study.size.kind study.size.alternatives

  abbrev own : ℕ
  own = own_version study

  -- lines without a fault lead from one standing to another
  abbrev pub SharpRuns : SharpStanding → List SharpLine → SharpStanding → Type 0
  SharpRuns s [] t = s ≡ t
  SharpRuns s (l ∷ ls) t =
      SharpFits study s.place s.told l × (is_sharp_plain l ≡ true) × (sharp_fault study s l ≡ None)
      × SharpRuns (advance_sharp study s l) ls t

  sharp_append : (s t u : SharpStanding) (a b : List SharpLine) → SharpRuns s a t → SharpRuns t b u → SharpRuns s (a ++ b) u
  sharp_append s t u [] b r q = subst (λ (x : SharpStanding). SharpRuns x b u) (sym r) q
  sharp_append s t u (l ∷ a) b r q = (r.0, r.1, r.2, sharp_append (advance_sharp study s l) t u a b r.3 q)

  sharp_from : (s t u : SharpStanding) (a : List SharpLine) → s ≡ t → SharpRuns t a u → SharpRuns s a u
  sharp_from s t u a e r = subst (λ (x : SharpStanding). SharpRuns x a u) (sym e) r

  sharp_to : (s t u : SharpStanding) (a : List SharpLine) → t ≡ u → SharpRuns s a t → SharpRuns s a u
  sharp_to s t u a e r = subst (λ (x : SharpStanding). SharpRuns s a x) e r

  sharp_over : (s t : SharpStanding) (a b : List SharpLine) → a ≡ b → SharpRuns s a t → SharpRuns s b t
  sharp_over s t a b e r = subst (λ (ls : List SharpLine). SharpRuns s ls t) e r

  -- ---- the story

  abbrev standing_at : SharpPlace → Standing → SharpStanding
  standing_at p s = record { place = p; told = s; marks = []; rows = [] }

  abbrev reading : Standing → SharpStanding
  reading s = standing_at (cond (is_story_read s.place) AtInstances AtReport) s

  story_runs : (s t : Standing) (ls : List Line) → Runs study is true s ls t → list_all is_told_line ls ≡ true → SharpRuns (reading s) (map Plain ls) (reading t)
  story_runs s t [] r h = ap reading r
  story_runs s t (l ∷ ls) r h =
      let p = and_parts (is_told_line l) (list_all is_told_line ls) h in
      let not_yet = told_fits study s.place (length s.earlier + 1) l r.0 p.0 in
      sharp_from (reading s) (standing_at AtReport s) (reading t) (map Plain (l ∷ ls)) (ap (λ b. standing_at (cond b AtInstances AtReport) s) not_yet)
      ((r.0, told_said l p.0), r.1, ap (option_map Report) (r.2 refl), story_runs (advance study s l) t ls r.3 p.1)

  module _ (core : List ℕ) (story : List Lemma) (accepted : is_story study.size study.axioms core story ≡ true)
      (places : is_core_from 0 (length study.axioms) core ≡ true) where
    -- what the reader knows once the story is told
    abbrev pub known : Standing
    known = told study is true own core (length story) story []

    abbrev told_part : List Line
    told_part = after_first (head_lines study own) ++ told_lines study core story

    known_run : Runs study is true start (head_lines study own ++ told_lines study core story) known
    known_run =
        let text = right_has_text study is (Impossible core story (opens study core)) (open_is_right study core story accepted places) in
        let a = and_parts (nat_lt 0 (length story) && list_all (is_lemma_text study) story && list_all (λ k. nat_lt k (length study.axioms)) core) _ text in
        let b = and_parts (nat_lt 0 (length story) && list_all (is_lemma_text study) story) (list_all (λ k. nat_lt k (length study.axioms)) core) a.0 in
        let c = and_parts (nat_lt 0 (length story)) (list_all (is_lemma_text study) story) b.0 in
        let allowed = own_allowed study in
        runs_append study is true start (at_verdict study is true own) known (head_lines study own) (told_lines study core story)
        (head_run study is true own (allowed_known study.size own allowed, λ _. allowed))
        (told_run study is true own core story (λ _. accepted) (λ _. places) (ltb-true 0 (length story) c.0) c.1 b.1)

    -- the first line and the story
    told_run_sharp : SharpRuns sharp_start (SharpTitle ∷ map Plain told_part) (standing_at AtInstances known)
    told_run_sharp =
        let lines_told = list_all-both is_told_line (after_first (head_lines study own)) (told_lines study core story) (head_is_told study own) (story_is_told 1 story) in
        let read : reading known ≡ standing_at AtInstances known = ap (λ b. standing_at (cond b AtInstances AtReport) known) (read_place (next_after core []) (Impossible core story [])) in
        sharp_to sharp_start (reading known) (standing_at AtInstances known) (SharpTitle ∷ map Plain told_part) read
        (tt, refl, refl, story_runs (advance study start (Title own)) known told_part known_run.3 lines_told)

    -- ---- marks

    abbrev cs : List Cited
    cs = instances_of study story

    abbrev marked : List Witness → SharpStanding
    marked ms = record { place = cond (length ms == length cs) AtSharpEnd AtNeed; told = known; marks = ms; rows = [] }

    abbrev wanting : List Witness → SharpStanding
    wanting ms = record { place = AtNeed; told = known; marks = ms; rows = [] }

    abbrev in_rows : List Witness → List ℕ → SharpStanding
    in_rows ms rows = record { place = AtNeedRow; told = known; marks = ms; rows = rows }

    module _ (done : List Witness) (c : Cited) (next : slice_get cs (length done) ≡ Some c) where
      more : length done < length cs
      more = slice_get_within cs (length done) c next

      wanted_next : marked done ≡ wanting done
      wanted_next = ap (λ b. record { place = cond b AtSharpEnd AtNeed; told = known; marks = done; rows = [] }) (ne_eqb (length done) (length cs) (λ e. omega (arith, e, more)))

      asked : next_instance study (wanting done) ≡ Some c
      asked = next

      abbrev row_fault : List ℕ → ℕ → ℕ → Option SharpRefusal
      row_fault rows p o =
          option_or (unless_of (p == length rows) (Report refusal.Row)) (cond (length rows + 1 == P) (instances_fault study (rows ++ o ∷ []) (others_than cs c)) None)

      row_fault_is : (rows : List ℕ) (p o : ℕ) → sharp_fault study (in_rows done rows) (Plain (Row p o)) ≡ row_fault rows p o
      row_fault_is rows p o =
          ap (λ x. option_or (unless_of (p == length rows) (Report refusal.Row)) (cond (length rows + 1 == P) (instances_fault study (rows ++ o ∷ []) (option_map_or (others_than cs) x [])) None)) next

      rows_run : (rows : List ℕ) (o : ℕ) (rest : List ℕ) → length (rows ++ o ∷ rest) ≡ P → list_all (λ o. nat_lt o K) (o ∷ rest) ≡ true
          → instances_fault study (rows ++ o ∷ rest) (others_than cs c) ≡ None
          → SharpRuns (in_rows done rows) (map Plain (row_lines (length rows) (o ∷ rest))) (marked (done ++ Rule (rows ++ o ∷ rest) ∷ []))
      rows_run rows o [] n h e =
          let l : length (rows ++ o ∷ []) ≡ length rows + 1 = length-append rows (o ∷ []) in
          let p = and_parts (nat_lt o K) true h in
          let last : (length rows + 1 == P) ≡ true = eq-eqb (length rows + 1) P (sym l ∙ n) in (
            ((let inside : length rows < P = omega (arith, n, l) in inside), ltb-true o K p.0),
            refl,
            row_fault_is rows (length rows) o
                ∙ ap (λ b. option_or (unless_of b (Report refusal.Row)) (cond (length rows + 1 == P) (instances_fault study (rows ++ o ∷ []) (others_than cs c)) None)) (eq-eqb (length rows) (length rows) refl)
                ∙ ap (λ b. cond b (instances_fault study (rows ++ o ∷ []) (others_than cs c)) None) last ∙ e,
            ap (λ b. cond b (marked (done ++ Rule (rows ++ o ∷ []) ∷ [])) (in_rows done (rows ++ o ∷ []))) (eq-eqb (length (rows ++ o ∷ [])) P n),
          )
      rows_run rows o (u ∷ rest) n h e =
          let l : length (rows ++ o ∷ []) ≡ length rows + 1 = length-append rows (o ∷ []) in
          let m : length (rows ++ o ∷ u ∷ rest) ≡ length rows + length (o ∷ u ∷ rest) = length-append rows (o ∷ u ∷ rest) in
          let p = and_parts (nat_lt o K) (list_all (λ o. nat_lt o K) (u ∷ rest)) h in
          let same : (rows ++ o ∷ []) ++ u ∷ rest ≡ rows ++ o ∷ u ∷ rest = append_assoc rows (o ∷ []) (u ∷ rest) in
          let later = rows_run (rows ++ o ∷ []) u rest (ap length same ∙ n) p.1 (ap (λ x. instances_fault study x (others_than cs c)) same ∙ e) in
          let moved : advance_sharp study (in_rows done rows) (Plain (Row (length rows) o)) ≡ in_rows done (rows ++ o ∷ []) =
          ap (λ b. cond b (marked (done ++ Rule (rows ++ o ∷ []) ∷ [])) (in_rows done (rows ++ o ∷ []))) (ne_eqb (length (rows ++ o ∷ [])) P (λ s. omega (arith, s, l, m, n))) in (
            ((let inside : length rows < P = omega (arith, n, m) in inside), ltb-true o K p.0),
            refl,
            row_fault_is rows (length rows) o
                ∙ ap (λ b. option_or (unless_of b (Report refusal.Row)) (cond (length rows + 1 == P) (instances_fault study (rows ++ o ∷ []) (others_than cs c)) None)) (eq-eqb (length rows) (length rows) refl)
                ∙ ap (λ b. cond b (instances_fault study (rows ++ o ∷ []) (others_than cs c)) None) (ne_eqb (length rows + 1) P (λ s. omega (arith, s, m, n))),
            sharp_from (advance_sharp study (in_rows done rows) (Plain (Row (length rows) o))) (in_rows done (rows ++ o ∷ [])) (marked (done ++ Rule (rows ++ o ∷ u ∷ rest) ∷ [])) (map Plain (row_lines (length rows + 1) (u ∷ rest))) moved
                (sharp_over (in_rows done (rows ++ o ∷ [])) (marked (done ++ Rule (rows ++ o ∷ u ∷ rest) ∷ [])) (map Plain (row_lines (length (rows ++ o ∷ [])) (u ∷ rest))) (map Plain (row_lines (length rows + 1) (u ∷ rest))) (ap (λ k. map Plain (row_lines k (u ∷ rest))) l)
                (sharp_to (in_rows done (rows ++ o ∷ [])) (marked (done ++ Rule ((rows ++ o ∷ []) ++ u ∷ rest) ∷ [])) (marked (done ++ Rule (rows ++ o ∷ u ∷ rest) ∷ [])) (map Plain (row_lines (length (rows ++ o ∷ [])) (u ∷ rest))) (ap (λ x. marked (done ++ Rule x ∷ [])) same) later)),
          )

      table_run : (table : List ℕ) → length table ≡ P → list_all (λ o. nat_lt o K) table ≡ true → instances_fault study table (others_than cs c) ≡ None
          → SharpRuns (in_rows done []) (map Plain (row_lines 0 table)) (marked (done ++ Rule table ∷ []))
      table_run [] n h e = absurd (omega (arith, n, size_has_profile study.size is.size))
      table_run (o ∷ rest) n h e = rows_run [] o rest n h e

      -- the line that begins a mark has no fault
      need_fault : (b : Bool) (word : SharpRefusal) → b ≡ true → option_or (instance_fault study (next_instance study (wanting done)) (reason_at study c)) (unless_of b word) ≡ None
      need_fault b word e =
          let cited = (reason_cites study c (next_present study story (length done) c next)).1 in
          ap (λ o. option_or (instance_fault study o (reason_at study c)) (unless_of b word)) asked
          ∙ ap (λ x. option_or (unless_of x Instance) (unless_of b word)) cited
          ∙ ap (λ x. unless_of x word) e

      mark_run : (m : Witness) → is_mark study cs c m ≡ true → SharpRuns (marked done) (mark_lines study c m) (marked (done ++ m ∷ []))
      mark_run (Rule table) h =
          let p = and_parts (is_rule study.size table) (list_all (is_true_of study table) (others_than cs c)) h in
          let q = and_parts (length table == P) (list_all (λ o. nat_lt o K) table) p.0 in
          sharp_from (marked done) (wanting done) (marked (done ++ Rule table ∷ [])) (mark_lines study c (Rule table)) wanted_next (
            (reason_cites study c (next_present study story (length done) c next)).0,
            refl,
            need_fault (P == P) (Report refusal.Row) (eq-eqb P P refl),
            table_run table (eqb-true (length table) P q.0) q.1 (none_from study table (others_than cs c) p.1),
          )
      mark_run (Open n) h =
          sharp_from (marked done) (wanting done) (marked (done ++ Open n ∷ [])) (mark_lines study c (Open n)) wanted_next (
            (reason_cites study c (next_present study story (length done) c next)).0,
            refl,
            need_fault (n == study.conflicts) (Report refusal.OpenMark) h,
            refl,
          )

    at_seam : (before rest : List Cited) (c : Cited) → slice_get (before ++ c ∷ rest) (length before) ≡ Some c
    at_seam [] rest c = refl
    at_seam (b ∷ before) rest c = at_seam before rest c

    marks_run : (before rest : List Cited) (done ms : List Witness) → before ++ rest ≡ cs → length done ≡ length before
        → pointwise (is_mark study cs) rest ms ≡ true → SharpRuns (marked done) (all_mark_lines study rest ms) (marked (done ++ ms))
    marks_run before [] done [] e n h = ap marked (sym (append-nil done))
    marks_run before [] done (m ∷ ms) e n h = absurd (true≢false (sym h))
    marks_run before (c ∷ rest) done [] e n h = absurd (true≢false (sym h))
    marks_run before (c ∷ rest) done (m ∷ ms) e n h =
        let p = and_parts (is_mark study cs c m) (pointwise (is_mark study cs) rest ms) h in
        let next : slice_get cs (length done) ≡ Some c = ap₂ (λ (ds : List Cited) (k : ℕ). slice_get ds k) (sym e) n ∙ at_seam before rest c in
        let same : (before ++ c ∷ []) ++ rest ≡ cs = append_assoc before (c ∷ []) rest ∙ e in
        let count : length (done ++ m ∷ []) ≡ length (before ++ c ∷ []) = omega (arith, length-append done (m ∷ []), length-append before (c ∷ []), n) in
        sharp_append (marked done) (marked (done ++ m ∷ [])) (marked (done ++ m ∷ ms)) (mark_lines study c m) (all_mark_lines study rest ms)
        (mark_run done c next m p.0)
        (sharp_to (marked (done ++ m ∷ [])) (marked ((done ++ m ∷ []) ++ ms)) (marked (done ++ m ∷ ms)) (all_mark_lines study rest ms) (ap marked (append_assoc done (m ∷ []) ms))
        (marks_run (before ++ c ∷ []) rest (done ++ m ∷ []) ms same count p.1))

    pointwise_length : (ds : List Cited) (ms : List Witness) → pointwise (is_mark study cs) ds ms ≡ true → length ms ≡ length ds
    pointwise_length [] [] h = refl
    pointwise_length [] (m ∷ ms) h = absurd (true≢false (sym h))
    pointwise_length (d ∷ ds) [] h = absurd (true≢false (sym h))
    pointwise_length (d ∷ ds) (m ∷ ms) h = ap suc (pointwise_length ds ms (and_parts (is_mark study cs d m) (pointwise (is_mark study cs) ds ms) h).1)

    abbrev ended : List Witness → SharpStanding
    ended ms = record { place = AtSharpNothing; told = known; marks = ms; rows = [] }

    -- how many instances there are, their marks and the end
    past_run : (ms : List Witness) → list_all (is_axiom_told story) core ≡ true → pointwise (is_mark study cs) cs ms ≡ true
        → SharpRuns (standing_at AtInstances known) ((InstancesAre (length cs) ∷ all_mark_lines study cs ms) ++ Plain End ∷ []) (ended ms)
    past_run ms cited h =
        let full : marked ms ≡ record { place = AtSharpEnd; told = known; marks = ms; rows = [] } =
        ap (λ b. record { place = cond b AtSharpEnd AtNeed; told = known; marks = ms; rows = [] }) (eq-eqb (length ms) (length cs) (pointwise_length cs ms h)) in
        let none : sharp_fault study (standing_at AtInstances known) (InstancesAre (length cs)) ≡ None =
        ap (λ b. option_or (unless_of b (Report refusal.Core)) (unless_of (length cs == length cs) Instance)) cited
        ∙ ap (λ b. unless_of b Instance) (eq-eqb (length cs) (length cs) refl) in
        let last : SharpRuns (marked ms) (Plain End ∷ []) (ended ms) = sharp_from (marked ms) (record { place = AtSharpEnd; told = known; marks = ms; rows = [] }) (ended ms) (Plain End ∷ []) full (tt, refl, refl, refl) in
        sharp_append (standing_at AtInstances known) (marked ms) (ended ms) (InstancesAre (length cs) ∷ all_mark_lines study cs ms) (Plain End ∷ [])
        (tt, refl, none, marks_run [] cs [] ms refl refl h) last

    -- all lines
    lines_run : (ms : List Witness) → list_all (is_axiom_told story) core ≡ true → pointwise (is_mark study cs) cs ms ≡ true
        → SharpRuns sharp_start (sharp_lines study (record { core = core; story = story; instances = cs; marks = ms })) (ended ms)
    lines_run ms cited h =
        let same : told_lines study core story ++ all_witness_lines study core [] ≡ told_lines study core story = ap (λ ls. told_lines study core story ++ ls) (no_witness study core) ∙ append-nil (told_lines study core story) in
        let part : map Plain told_part ≡ map Plain (story_part study (record { core = core; story = story; instances = cs; marks = ms })) = ap (λ ls. map Plain (after_first (head_lines study own) ++ ls)) (sym same) in
        let tail = InstancesAre (length cs) ∷ all_mark_lines study cs ms in
        let whole = sharp_append sharp_start (standing_at AtInstances known) (ended ms) (SharpTitle ∷ map Plain told_part) (tail ++ Plain End ∷ []) told_run_sharp (past_run ms cited h) in
        sharp_over sharp_start (ended ms) ((SharpTitle ∷ map Plain told_part) ++ (tail ++ Plain End ∷ [])) (sharp_lines study (record { core = core; story = story; instances = cs; marks = ms }))
        (sym (append_assoc (SharpTitle ∷ map Plain told_part) tail (Plain End ∷ []))
        ∙ ap (λ ls. ((SharpTitle ∷ ls) ++ tail) ++ Plain End ∷ []) part) whole

  -- the lines of a right sharp verdict lead to its end
  abbrev pub SharpEnds : Pointed → Type 0
  SharpEnds v = (s : SharpStanding) × SharpRuns sharp_start (sharp_lines study v) s × (s.place ≡ AtSharpNothing) × (pointed_of study s ≡ v)

  pub right_places : (v : Pointed) → IsSharpRight study v → is_core_from 0 (length study.axioms) v.core ≡ true
  right_places v right = subst (λ (core : List ℕ). is_core_from 0 (length study.axioms) core ≡ true) (sym right.core) (cited_is_core study v.story)

  pub whole_run : (v : Pointed) → IsSharpRight study v → SharpEnds v
  whole_run v right =
      let places = right_places v right in
      let cited : list_all (is_axiom_told v.story) v.core ≡ true = subst (λ (core : List ℕ). list_all (is_axiom_told v.story) core ≡ true) (sym right.core) (kept_pass (is_axiom_told v.story) _) in
      let marks = subst (λ (ds : List Cited). pointwise (is_mark study ds) ds v.marks ≡ true) right.instances right.marks in
      let run = lines_run v.core v.story right.accepted places v.marks cited marks in
      let listed : Pointed → Type 0 = λ w. SharpRuns sharp_start (sharp_lines study w) (ended v.core v.story right.accepted places v.marks) in (
        ended v.core v.story right.accepted places v.marks,
        subst (λ (ds : List Cited). listed (record { core = v.core; story = v.story; instances = ds; marks = v.marks })) (sym right.instances) run,
        refl,
        ap (λ (ds : List Cited). record { core = v.core; story = v.story; instances = ds; marks = v.marks }) (sym right.instances),
      )
