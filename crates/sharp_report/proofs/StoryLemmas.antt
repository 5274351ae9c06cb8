-- The title, the lines of the report, and the number of instances.
use Rattle.std.proofs.Common.{◌≡◌, refl, sym, ap, ap₂, ◌∙◌, subst, ℕ, ◌+◌, Bool, true, false, cond, List, [], ◌∷◌, ◌++◌, length, Option, Some, None, option_map, Ok, Err, arith, true≢false, length-append}
use Rattle.std.specs.Prelude.{codes, ◌==◌}
use Rattle.std.specs.List.{list_all}
use Rattle.std.specs.Option.{option_or, option_map_or}
use Rattle.vocab.specs.Size.{is_full}
use Rattle.vocab.specs.Study.{Question}
use Rattle.verdicts.specs.declared.refusals.Refusal.{Refusal}
use Rattle.verdicts.specs.declared.refusals.Refusal.TheVariants.{Form, Core, StudyDiffers}
use Rattle.verdicts.specs.Lines.{Line, Title, SaysPossible}
use Rattle.verdicts.specs.Places.{Standing, start}
use Rattle.verdicts.specs.Faults.{unless_so, fault_of}
use Rattle.verdicts.specs.FirstFault.{Good}
use Rattle.verdicts.specs.Judge.{advance, read_line, line_fault, after, judge}
use Rattle.verdicts.specs.Report.{own_version}
use Rattle.verdicts.proofs.JudgeLaws.{read_fits}
use Rattle.verdicts.proofs.ReportLaws.{own_allowed}
use Rattle.verdicts.proofs.FaultLaws.{past}
use Rattle.verdicts.proofs.FirstFaultLaws.{after_good}
use Rattle.report_lines.specs.declared.lines.Line.{Line as HeldLine}
use Rattle.report_lines.specs.Held.{held_line}
use Rattle.report.specs.declared.judging.Judging.{Judging}
use Rattle.report.specs.Stands.{Stands}
use Rattle.report.specs.Taken.{IsTaken}
use Rattle.sharp_verdicts.specs.declared.instances.Cited.{Cited}
use Rattle.sharp_verdicts.specs.declared.refusals.SharpRefusal.TheVariants.{Report, Instance}
use Rattle.sharp_verdicts.specs.Instances.{is_axiom_told, instances_of}
use Rattle.sharp_verdicts.specs.SharpFaults.{unless_of, listed_instances, plain_fault, sharp_fault}
use Rattle.sharp_verdicts.specs.SharpJudge.{advance_plain, after_mark}
use Rattle.sharp_verdicts.specs.SharpLines.{SharpTitle, Plain, InstancesAre}
use Rattle.sharp_verdicts.specs.SharpPlaces.{SharpPlace, AtSharp, AtReport, AtInstances, AtNeed, AtNeedRow, AtSharpEnd, AtSharpNothing, SharpStanding, is_story_read, not_possible, read_title, read_sharp_at}
use Rattle.sharp_report.specs.declared.judging.SharpJudging.{SharpJudging}
use Rattle.sharp_report.specs.declared.lines.SharpLine.TheVariants as said
use Rattle.sharp_report.specs.declared.places.SharpPlace.TheVariants as place
use Rattle.sharp_report.specs.Cited.{codes_of_line, names_of_line, says_possible, has_axiom, Cites}
use Rattle.sharp_report.specs.SharpStands.{held_sharp_place, own_title, HoldsAt, SharpStands, IsReadWithin, SharpTook, IsSharpTaken}
use Rattle.sharp_report.proofs.CitedLemmas.{named_line, After, next, core_told}
use Rattle.std.proofs.lemmas.Option.{same_Some}

-- a place is held as itself
pub same_place : (p q : SharpPlace) → held_sharp_place p ≡ held_sharp_place q → p ≡ q
same_place AtSharp AtSharp e = refl
same_place AtReport AtReport e = refl
same_place AtInstances AtInstances e = refl
same_place AtNeed AtNeed e = refl
same_place AtNeedRow AtNeedRow e = refl
same_place AtSharpEnd AtSharpEnd e = refl
same_place AtSharpNothing AtSharpNothing e = refl
same_place p q e = absurd (cc)

other_line : (study : Question) (w : Line) → says_possible (held_line study w) ≡ false → not_possible (Some w) ≡ Some (Plain w)
other_line study SaysPossible e = absurd (true≢false e)
other_line study w e = refl

module _ (study : Question) where
  -- ---- the title

  title_at : (full : Bool) → read_line study start (cond full (codes "bench report 1") (codes "bench report 2")) ≡ Some (Title (cond full 1 2))
  title_at true = refl
  title_at false = refl

  own_read : read_line study start (own_title study) ≡ Some (Title (own_version study))
  own_read = title_at (is_full study.size)

  own_right : fault_of study start (Title (own_version study)) ≡ None
  own_right = ap (λ (b : Bool). unless_so b StudyDiffers) (own_allowed study)

  own_judged : judge study (own_title study ∷ []) ≡ Good (advance study start (Title (own_version study)))
  own_judged = past study 1 start (own_title study) [] (Title (own_version study)) own_read own_right

  module _ (s : SharpStanding) (r : SharpJudging) (text own : List ℕ) (h : SharpStands study r s) (at : s.place ≡ AtSharp) (is : own ≡ own_title study) where
    begins : s.told ≡ start
    begins = (subst (λ p. HoldsAt study p r s) at h.at).0

    own_line : read_line study s.told own ≡ Some (Title (own_version study))
    own_line = ap (λ (t : Standing). read_line study t own) begins ∙ ap (read_line study start) is ∙ own_read

    -- it is taken
    pub title_taken : (told : Judging) (line : HeldLine) → read_title study text ≡ Some SharpTitle → IsTaken study s.told own told (Ok line) → IsSharpTaken study s text (record r { place = place.AtReport; told = told }) (Ok said.Title)
    title_taken told line read h2 =
        let same : h2.0 ≡ Title (own_version study) = same_Some h2.0 (Title (own_version study)) (sym h2.1 ∙ own_line) in
        let t : Standing = advance study s.told (Title (own_version study)) in
        let stands : Stands study told t = subst (λ (w : Line). Stands study told (advance study s.told w)) same h2.4 in
        let none : r.cited.items ≡ [] = (subst (λ p. HoldsAt study p r s) at h.at).1 in
        let cites : Cites study r.cited.items s.told.earlier s.told.steps = subst (λ (u : Standing). Cites study r.cited.items u.earlier u.steps) (sym begins) (record { are = none; lemmas_named = refl; steps_named = refl }) in (
          SharpTitle,
          ap (λ p. read_sharp_at study p s.told text) at ∙ read,
          refl,
          refl,
          record { place = refl; told = stands; marks = h.marks; rows = h.rows; at = (refl, cites) },
          λ n i. record { lines = own_title study ∷ []; few = omega arith; good = own_judged ∙ ap (λ (u : Standing). Good (advance study u (Title (own_version study)))) (sym begins) },
        )

    -- and has no fault
    pub title_good : (told : Judging) (word : Refusal) → IsTaken study s.told own told (Err word) → ⊥
    title_good told word h2 =
        let none : line_fault study s.told own ≡ None = ap (λ o. option_map_or (fault_of study s.told) o (Some Form)) own_line ∙ ap (λ (b : Bool). unless_so b StudyDiffers) (own_allowed study) in
        no_word word (sym none ∙ h2)
      where
        no_word : (word : Refusal) → None ≡ Some word → ⊥
        no_word word e = cc

  pub no_title : (s : SharpStanding) (r : SharpJudging) (text : List ℕ) → s.place ≡ AtSharp → read_title study text ≡ None → IsSharpTaken study s text r (Err (Report Form))
  no_title s r text at e = ap (λ o. option_map_or (sharp_fault study s) o (Some (Report Form))) (ap (λ p. read_sharp_at study p s.told text) at ∙ e)

  -- ---- a line of the report

  -- what it names is there
  pub line_named : (t : Standing) (text : List ℕ) (told : Judging) (line : HeldLine) → IsTaken study t text told (Ok line) → names_of_line study line ≡ true
  line_named t text told line h = ap (names_of_line study) h.2 ∙ named_line study t.place (length t.earlier + 1) h.0 (read_fits study t text h.0 h.1)

  at_next : (b : Bool) (r : SharpJudging) (s : SharpStanding) → After study b s.told r.cited.items → HoldsAt study (cond b AtInstances AtReport) r s
  at_next true r s a = a
  at_next false r s a = a

  read_more : (n : ℕ) (s t : SharpStanding) (text : List ℕ) (w : Line) → read_line study s.told text ≡ Some w → fault_of study s.told w ≡ None → t.told ≡ advance study s.told w → IsReadWithin study n s → IsReadWithin study (n + 1) t
  read_more n s t text w e f same i =
      let more : judge study (i.lines ++ text ∷ []) ≡ Good (advance study s.told w) =
      after_good (line_fault study) (after study) 1 start s.told i.lines (text ∷ []) i.good
      ∙ past study (1 + length i.lines) s.told text [] w e f in
      record {
        lines = i.lines ++ text ∷ [];
        few = (let a = i.few in let b : length (i.lines ++ text ∷ []) ≡ length i.lines + 1 = length-append i.lines (text ∷ []) in omega (arith, a, b));
        good = more ∙ ap Good (sym same);
      }

  module _ (s : SharpStanding) (r : SharpJudging) (text : List ℕ) (h : SharpStands study r s) (at : s.place ≡ AtReport) where
    -- it is taken
    pub report_taken : (after : SharpJudging) (line : HeldLine) → IsTaken study s.told text after.told (Ok line) → says_possible line ≡ false
        → after.cited.items ≡ r.cited.items ++ codes_of_line study line
        → ((t : Standing) → Stands study after.told t → after.place ≡ held_sharp_place (cond (is_story_read t.place) AtInstances AtReport))
        → after.marks ≡ r.marks → after.rows ≡ r.rows → IsSharpTaken study s text after (Ok (said.Plain line))
    report_taken after line h2 other cited placed marks rows =
        let w = h2.0 in
        let t : Standing = advance study s.told w in
        let plain : says_possible (held_line study w) ≡ false = ap says_possible (sym h2.2) ∙ other in
        let here = subst (λ p. HoldsAt study p r s) at h.at in
        let collected : After study (is_story_read t.place) t (r.cited.items ++ codes_of_line study (held_line study w)) =
        next study (length s.told.earlier + 1) s.told w r.cited.items here.0 (read_fits study s.told text w h2.1) h2.3 plain here.1 in
        let same : r.cited.items ++ codes_of_line study (held_line study w) ≡ after.cited.items = ap (λ (l : HeldLine). r.cited.items ++ codes_of_line study l) (sym h2.2) ∙ sym cited in
        let u : SharpStanding = record s { told = t; place = cond (is_story_read t.place) AtInstances AtReport } in
        let stands : SharpStands study after u = record {
          place = placed t h2.4;
          told = h2.4;
          marks = marks ∙ h.marks;
          rows = rows ∙ h.rows;
          at = at_next (is_story_read t.place) after u (subst (After study (is_story_read t.place) t) same collected);
        } in (
          Plain w,
          ap (λ p. read_sharp_at study p s.told text) at ∙ ap not_possible h2.1 ∙ other_line study w plain,
          ap said.Plain h2.2,
          ap (λ p. plain_fault study p s w) at ∙ ap (option_map Report) h2.3,
          subst (λ p. SharpStands study after (advance_plain study p s w)) (sym at) stands,
          λ n i. subst (λ p. IsReadWithin study (n + 1) (advance_plain study p s w)) (sym at) (read_more n s u text w h2.1 h2.3 refl i),
        )

    -- it is refused
    pub report_refused : (after : SharpJudging) (told : Judging) (word : Refusal) → IsTaken study s.told text told (Err word) → IsSharpTaken study s text after (Err (Report word))
    report_refused after told word h2 =
        ap (λ o. option_map_or (sharp_fault study s) o (Some (Report Form))) (ap (λ p. read_sharp_at study p s.told text) at)
        ∙ by_line (read_line study s.told text) h2
      where
        by_plain : (w : Line) → fault_of study s.told w ≡ Some word → option_map_or (sharp_fault study s) (Some (Plain w)) (Some (Report Form)) ≡ Some (Report word)
        by_plain w e = ap (λ p. plain_fault study p s w) at ∙ ap (option_map Report) e

        by_fault : (w : Line) → fault_of study s.told w ≡ Some word → option_map_or (sharp_fault study s) (not_possible (Some w)) (Some (Report Form)) ≡ Some (Report word)
        by_fault SaysPossible e = absurd (cc)
        by_fault w e = by_plain w e

        by_line : (o : Option Line) → option_map_or (fault_of study s.told) o (Some Form) ≡ Some word → option_map_or (sharp_fault study s) (not_possible o) (Some (Report Form)) ≡ Some (Report word)
        by_line None e = let same : Form ≡ word = cc in ap (λ w. Some (Report w)) same
        by_line (Some w) e = by_fault w e

  -- ---- the number of instances

  module _ (s : SharpStanding) (r : SharpJudging) (h : SharpStands study r s) (at : s.place ≡ AtInstances) where
    pub cites_story : Cites study r.cited.items s.told.earlier []
    cites_story = subst (λ p. HoldsAt study p r s) at h.at

    pub told_core : (instances : List Cited) (core : List ℕ) (b : Bool) → instances ≡ instances_of study s.told.earlier → core ≡ s.told.core → b ≡ list_all (has_axiom instances) core → list_all (is_axiom_told s.told.earlier) s.told.core ≡ b
    told_core instances core b e f g = ap (list_all (is_axiom_told s.told.earlier)) (sym f) ∙ sym (core_told study s.told.earlier instances core cites_story.lemmas_named e) ∙ sym g

    -- the story does not cite each axiom of its core
    pub core_fault : (after : SharpJudging) (n : ℕ) → list_all (is_axiom_told s.told.earlier) s.told.core ≡ false → SharpTook study s (InstancesAre n) after (Some (Report Core))
    core_fault after n e = (ap (λ (b : Bool). option_or (unless_of b (Report Core)) (unless_of (n == length (listed_instances study s)) Instance)) (sym e), λ none. absurd (cc))

    -- it is another number
    pub count_fault : (after : SharpJudging) (n : ℕ) → list_all (is_axiom_told s.told.earlier) s.told.core ≡ true → (n == length (listed_instances study s)) ≡ false → SharpTook study s (InstancesAre n) after (Some Instance)
    count_fault after n e f = (ap₂ (λ (b c : Bool). option_or (unless_of b (Report Core)) (unless_of c Instance)) (sym e) (sym f), λ none. absurd (cc))

    -- it is this number
    pub count_right : (after : SharpJudging) (n : ℕ) → list_all (is_axiom_told s.told.earlier) s.told.core ≡ true → (n == length (listed_instances study s)) ≡ true → SharpStands study after (after_mark study s) → SharpTook study s (InstancesAre n) after None
    count_right after n e f stands = (ap₂ (λ (b c : Bool). option_or (unless_of b (Report Core)) (unless_of c Instance)) (sym e) (sym f), λ _. stands)
