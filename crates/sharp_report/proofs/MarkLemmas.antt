-- The lines of marks.
use Rattle.std.proofs.Common.{◌≡◌, refl, sym, ap, ap₂, ◌∙◌, subst, ℕ, ◌+◌, ◌<◌, ◌≤◌, Bool, true, false, cond, List, [], ◌∷◌, ◌++◌, length, Option, Some, None, option_map, Ok, arith, lt-ltb, length-append, inl, inr, ne_eqb}
use Rattle.std.specs.Prelude.{codes, nat_lt, ◌==◌, slice_get, take, drop, ◌-◌}
use Rattle.std.specs.Option.{option_or, option_map_or}
use Rattle.std.proofs.lemmas.Bool.{and_from}
use Rattle.std.proofs.lemmas.Bool.Decides.{Decides-eqb}
use Rattle.lists.proofs.TestLaws.{all_snoc}
use Rattle.vocab.specs.declared.kinds.Sort.TheVariants.{Profile}
use Rattle.vocab.specs.Size.{sort_count, outcome_count}
use Rattle.vocab.specs.Study.{Question}
use Rattle.meaning.specs.declared.cores.Witness.TheVariants.{Rule, Open}
use Rattle.meaning.specs.declared.stories.Reason.{Reason}
use Rattle.verdicts.specs.declared.refusals.Refusal.TheVariants as refusal
use Rattle.verdicts.specs.Texts.{words_of}
use Rattle.verdicts.specs.Lines.{Line, Row, Clash, End}
use Rattle.verdicts.specs.Numbers.{read_number, saturated}
use Rattle.verdicts.specs.Places.{AtRow, AtStep}
use Rattle.verdicts.specs.Reading.{keyed, one_word, read_cited, read_row}
use Rattle.verdicts.proofs.FitLaws.{wanted_fits}
use Rattle.verdicts.proofs.LineLaws.{map_is, then_is, or_is, keyed_is, one_is}
use Rattle.report_lines.specs.declared.lines.Line.TheVariants as held
use Rattle.report.specs.Taken.{AreOutcomes}
use Rattle.sharp_verdicts.specs.declared.instances.Cited.{Cited}
use Rattle.sharp_verdicts.specs.declared.refusals.SharpRefusal.{SharpRefusal}
use Rattle.sharp_verdicts.specs.declared.refusals.SharpRefusal.TheVariants.{Report}
use Rattle.sharp_verdicts.specs.Instances.{others_than}
use Rattle.sharp_verdicts.specs.SharpFaults.{unless_of, listed_instances, next_instance, instance_fault, instances_fault, others_asked, mark_row_fault, plain_fault, sharp_fault}
use Rattle.sharp_verdicts.specs.SharpJudge.{after_mark, after_mark_row, advance_plain, advance_sharp}
use Rattle.sharp_verdicts.specs.SharpLines.{SharpLine, Plain, NeedsRule, NeedsOpen}
use Rattle.sharp_verdicts.specs.SharpPlaces.{SharpPlace, AtNeed, AtNeedRow, AtSharpEnd, AtSharpNothing, SharpStanding, read_mark, read_need, wanted_past, read_past, read_sharp_at, read_sharp_line}
use Rattle.told_instances.specs.Told.{names_instance}
use Rattle.sharp_report.specs.declared.judging.SharpJudging.{SharpJudging}
use Rattle.sharp_report.specs.declared.lines.SharpLine.TheVariants as said
use Rattle.sharp_report.specs.declared.places.SharpPlace.TheVariants as place
use Rattle.sharp_report.specs.SharpStands.{held_sharp_place, told_unless, HoldsAt, SharpStands, HasMarks, IsReadWithin, HasMarkTable, IsSharpRead, SharpTook, TakesMark, IsSharpTaken}
use Rattle.sharp_report.proofs.CitedLemmas.{named_reason}
use Rattle.sharp_report.proofs.StoryLemmas.{same_place}
use Rattle.sharp_report.proofs.TakenLemmas.{wider}

-- a number that is held is another, where its held one is
pub other_number : (n m k count : ℕ) → count ≡ saturated n → m ≤ 18446744073709551614 → m ≡ k → (count ≡ m → ⊥) → (n == k) ≡ false
other_number n m k count held few same other = ne_eqb n k (λ e. other (omega (arith, held, few, same, e)))

module _ (study : Question) where
  -- ---- the first line of a mark

  -- the reason of such a line names what there is
  mark_reason : (r : Reason) (words : List (List ℕ)) (q : Reason) (line : SharpLine) → ((n : ℕ) → NeedsRule r n ≡ line → r ≡ q) → ((n : ℕ) → NeedsOpen r n ≡ line → r ≡ q) → read_mark r words ≡ Some line → r ≡ q
  mark_reason r words q line rule open_ e = elim (or_is (keyed (codes "rule") (one_word (λ w. option_map (NeedsRule r) (read_number w))) words) _ line e) [
    | inl a ↦
        let k = keyed_is (codes "rule") _ words line a in
        let o = one_is _ k.0 line k.2 in
        let m = map_is (NeedsRule r) (read_number o.0) line o.2 in
        rule m.0 m.2
    | inr b ↦
        let k = keyed_is (codes "open") _ words line b in
        let o = one_is _ k.0 line k.2 in
        let m = map_is (NeedsOpen r) (read_number o.0) line o.2 in
        open_ m.0 m.2
  ]

  -- an axiom of the study with its values is a reason of a line of a report
  cited_named : (words : List (List ℕ)) (r : Reason) → read_cited study words ≡ Some r → names_instance study r ≡ true
  cited_named words r e = named_reason study r (wanted_fits study AtStep 1 (codes "clash" ∷ codes "by" ∷ codes "axiom" ∷ words) (Clash r) (reads (read_cited study words) e))
    where
      reads : (o : Option Reason) → o ≡ Some r → option_map Clash (option_or o (option_or None None)) ≡ Some (Clash r)
      reads o f = ap (λ p. option_map Clash (option_or p (option_or None None))) f

  past_line : (place : SharpPlace) (text : List ℕ) (line : SharpLine) → read_past study place text ≡ Some line → wanted_past study place (words_of text) ≡ Some line
  past_line place text line e = by_test (nat_lt 4096 (length text)) e
    where
      by_test : (b : Bool) → cond b None (wanted_past study place (words_of text)) ≡ Some line → wanted_past study place (words_of text) ≡ Some line
      by_test true e = absurd (cc)
      by_test false e = e

  need_named : (text : List ℕ) (q : Reason) (line : SharpLine) → ((r : Reason) (n : ℕ) → NeedsRule r n ≡ line → r ≡ q) → ((r : Reason) (n : ℕ) → NeedsOpen r n ≡ line → r ≡ q) → read_past study AtNeed text ≡ Some line → names_instance study q ≡ true
  need_named text q line rule open_ e =
      let k = keyed_is (codes "needs") (read_need study) (words_of text) line (past_line AtNeed text line e) in
      let t = then_is (λ r. read_mark r (drop (length k.0 - 2) k.0)) (read_cited study (take (length k.0 - 2) k.0)) line k.2 in
      let same = mark_reason t.0 (drop (length k.0 - 2) k.0) q line (rule t.0) (open_ t.0) t.2 in
      subst (λ (r : Reason). names_instance study r ≡ true) same (cited_named (take (length k.0 - 2) k.0) t.0 t.1)

  pub rule_named : (text : List ℕ) (q : Reason) (m : ℕ) → read_past study AtNeed text ≡ Some (NeedsRule q m) → names_instance study q ≡ true
  rule_named text q m e = need_named text q (NeedsRule q m) (λ r n f. cc) (λ r n f. absurd cc) e

  pub open_named : (text : List ℕ) (q : Reason) (m : ℕ) → read_past study AtNeed text ≡ Some (NeedsOpen q m) → names_instance study q ≡ true
  open_named text q m e = need_named text q (NeedsOpen q m) (λ r n f. absurd cc) (λ r n f. cc) e

  -- ---- an open mark

  module _ (s : SharpStanding) (r : SharpJudging) (h : SharpStands study r s) (at : s.place ≡ AtNeed) where
    need_holds : HoldsAt study AtNeed r s
    need_holds = subst (λ p. HoldsAt study p r s) at h.at

    -- the marks with one more
    pub with_open : (n : ℕ) → HasMarks study (record r { marks = r.marks + 1 }) (record s { marks = s.marks ++ Open n ∷ [] })
    with_open n = record { told = h.told; marks = (let m = h.marks in let k : length (s.marks ++ Open n ∷ []) ≡ length s.marks + 1 = length-append s.marks (Open n ∷ []) in omega (arith, m, k)); instances = need_holds.0 }

    pub open_taken : (after : SharpJudging) (reason : Reason) (n : ℕ) → instance_fault study (next_instance study s) reason ≡ None → (n == study.conflicts) ≡ true → SharpStands study after (after_mark study (record s { marks = s.marks ++ Open n ∷ [] })) → SharpTook study s (NeedsOpen reason n) after None
    open_taken after reason n e f stands = (sym (ap₂ (λ o (b : Bool). option_or o (unless_of b (Report refusal.OpenMark))) e f), λ _. stands)

  -- ---- rows

  row_in : (text : List ℕ) (p o : ℕ) → read_past study AtNeedRow text ≡ Some (Plain (Row p o)) → o < outcome_count study.size.kind study.size.alternatives
  row_in text p o e =
      let m = map_is Plain (read_row study (words_of text)) (Plain (Row p o)) (past_line AtNeedRow text (Plain (Row p o)) e) in
      let same : m.0 ≡ Row p o = plain_same m.0 (Row p o) m.2 in
      (wanted_fits study AtRow 1 (words_of text) (Row p o) (m.1 ∙ ap Some same)).1
    where
      plain_same : (v w : Line) → Plain v ≡ Plain w → v ≡ w
      plain_same v w f = cc

  -- the table has its rows, as what reads it asks
  pub has_table : (r : SharpJudging) (rows : List ℕ) (text : List ℕ) (p o : ℕ) → IsSharpRead study r → r.place ≡ held_sharp_place AtNeedRow → read_past study AtNeedRow text ≡ Some (Plain (Row p o)) → rows ≡ r.rows ++ o ∷ [] → length rows ≡ sort_count study.size Profile → HasMarkTable study (record r { rows = rows })
  has_table r rows text p o i e read more whole =
      let at : i.standing.place ≡ AtNeedRow = same_place i.standing.place AtNeedRow (sym i.stands.place ∙ e) in
      let holds = subst (λ p. HoldsAt study p r i.standing) at i.stands.at in
      let all = all_snoc (λ x. nat_lt x (outcome_count study.size.kind study.size.alternatives)) r.rows o (subst (AreOutcomes study.size) (sym i.stands.rows) holds.2) (lt-ltb o _ (row_in text p o read)) in
      record {
        rule = and_from _ _ ((Decides-eqb (length rows) (sort_count study.size Profile)).1 whole) (subst (AreOutcomes study.size) (sym more) all);
        standing = i.standing;
        instances = holds.0;
      }

  module _ (s : SharpStanding) (r : SharpJudging) (text : List ℕ) (p o : ℕ) (h : SharpStands study r s) (at : s.place ≡ AtNeedRow) (read : read_past study AtNeedRow text ≡ Some (Plain (Row p o))) where
    row_holds : HoldsAt study AtNeedRow r s
    row_holds = subst (λ q. HoldsAt study q r s) at h.at

    row_line : read_sharp_line study s text ≡ Some (Plain (Row p o))
    row_line = ap (λ q. read_sharp_at study q s.told text) at ∙ read

    row_fault : sharp_fault study s (Plain (Row p o)) ≡ mark_row_fault study s p o
    row_fault = ap (λ q. plain_fault study q s (Row p o)) at

    abbrev with_row : SharpStanding
    with_row = record s { rows = s.rows ++ o ∷ [] }

    fault_then : (b : Bool) → p ≡ length s.rows → (length s.rows + 1 == sort_count study.size Profile) ≡ b → sharp_fault study s (Plain (Row p o)) ≡ cond b (instances_fault study (s.rows ++ o ∷ []) (others_asked study s)) None
    fault_then b e f =
        row_fault ∙ ap₂ (λ (x y : Bool). option_or (unless_of x (Report refusal.Row)) (cond y (instances_fault study (s.rows ++ o ∷ []) (others_asked study s)) None)) ((Decides-eqb p (length s.rows)).1 e) f

    same_told : (b : Bool) (t : SharpStanding) → (cond b (after_mark study (record t { marks = t.marks ++ Rule t.rows ∷ [] })) t).told ≡ t.told
    same_told true t = refl
    same_told false t = refl

    told_row : (n : ℕ) → IsReadWithin study n s → IsReadWithin study (n + 1) (advance_sharp study s (Plain (Row p o)))
    told_row n i =
        subst (λ q. IsReadWithin study (n + 1) (advance_plain study q s (Row p o))) (sym at)
        (wider study n s (after_mark_row study with_row) (same_told (length (s.rows ++ o ∷ []) == sort_count study.size Profile) with_row) i)

    taken_row : (after : SharpJudging) → sharp_fault study s (Plain (Row p o)) ≡ None → SharpStands study after (after_mark_row study with_row) → IsSharpTaken study s text after (Ok (said.Plain (held.Row p o)))
    taken_row after e stands = (
      Plain (Row p o),
      row_line,
      refl,
      e,
      subst (λ q. SharpStands study after (advance_plain study q s (Row p o))) (sym at) stands,
      told_row,
    )

    one_longer : length (s.rows ++ o ∷ []) ≡ length s.rows + 1
    one_longer = length-append s.rows (o ∷ [])

    pub row_stands : (rows : List ℕ) → rows ≡ r.rows ++ o ∷ [] → SharpStands study (record r { rows = rows }) with_row
    row_stands rows e = record {
      place = h.place;
      told = h.told;
      marks = h.marks;
      rows = e ∙ ap (λ (xs : List ℕ). xs ++ o ∷ []) h.rows;
      at = subst (λ q. HoldsAt study q (record r { rows = rows }) with_row) (sym at) (row_holds.0, row_holds.1, all_snoc (λ x. nat_lt x (outcome_count study.size.kind study.size.alternatives)) s.rows o row_holds.2 (lt-ltb o _ (row_in text p o read)));
    }

    -- a row that is not the last
    pub row_taken : (rows : List ℕ) → rows ≡ r.rows ++ o ∷ [] → p ≡ length r.rows → (length rows ≡ sort_count study.size Profile → ⊥) → IsSharpTaken study s text (record r { rows = rows }) (Ok (said.Plain (held.Row p o)))
    row_taken rows e here part =
        let first : p ≡ length s.rows = here ∙ ap length h.rows in
        let size : length rows ≡ length (s.rows ++ o ∷ []) = ap length (e ∙ ap (λ (xs : List ℕ). xs ++ o ∷ []) h.rows) in
        let more : (length s.rows + 1 == sort_count study.size Profile) ≡ false = ne_eqb (length s.rows + 1) (sort_count study.size Profile) (λ f. part (size ∙ one_longer ∙ f)) in
        let left : (length (s.rows ++ o ∷ []) == sort_count study.size Profile) ≡ false = ne_eqb (length (s.rows ++ o ∷ [])) (sort_count study.size Profile) (λ f. part (size ∙ f)) in
        taken_row (record r { rows = rows }) (fault_then false first more)
        (subst (λ (b : Bool). SharpStands study (record r { rows = rows }) (cond b (after_mark study (record with_row { marks = s.marks ++ Rule (s.rows ++ o ∷ []) ∷ [] })) with_row)) (sym left) (row_stands rows e))

    -- the last row
    pub last_row : (rows : List ℕ) (after : SharpJudging) (fault : Option SharpRefusal) → rows ≡ r.rows ++ o ∷ [] → p ≡ length r.rows → length rows ≡ sort_count study.size Profile → TakesMark study with_row after fault → IsSharpTaken study s text after (told_unless fault (said.Plain (held.Row p o)))
    last_row rows after fault e here whole h2 = by_fault fault h2.0 (h2.1 all)
      where
        size : length rows ≡ length (s.rows ++ o ∷ [])
        size = ap length (e ∙ ap (λ (xs : List ℕ). xs ++ o ∷ []) h.rows)

        all : length (s.rows ++ o ∷ []) ≡ sort_count study.size Profile
        all = sym size ∙ whole

        found : sharp_fault study s (Plain (Row p o)) ≡ instances_fault study (s.rows ++ o ∷ []) (others_asked study s)
        found = fault_then true (here ∙ ap length h.rows) ((Decides-eqb (length s.rows + 1) (sort_count study.size Profile)).1 (sym one_longer ∙ all))

        by_fault : (f : Option SharpRefusal) → f ≡ instances_fault study (s.rows ++ o ∷ []) (others_asked study s) → (f ≡ None → SharpStands study after (after_mark_row study with_row)) → IsSharpTaken study s text after (told_unless f (said.Plain (held.Row p o)))
        by_fault None e stands = taken_row after (found ∙ sym e) (stands refl)
        by_fault (Some word) e stands = ap (λ q. option_map_or (sharp_fault study s) q (Some (Report refusal.Form))) row_line ∙ found ∙ sym e

  -- ---- a whole table

  module _ (s : SharpStanding) (r : SharpJudging) (h : SharpStands study r s) (at : s.place ≡ AtNeedRow) where
    table_holds : HoldsAt study AtNeedRow r s
    table_holds = subst (λ q. HoldsAt study q r s) at h.at

    same_next : slice_get r.instances r.marks ≡ next_instance study s
    same_next = ap₂ (λ (cs : List Cited) (n : ℕ). slice_get cs n) table_holds.0 h.marks

    pub asked_is : (next : Cited) → Some next ≡ slice_get r.instances r.marks → others_than r.instances next ≡ others_asked study s
    asked_is next e = ap (λ (cs : List Cited). others_than cs next) table_holds.0 ∙ ap (λ o. option_map_or (others_than (listed_instances study s)) o []) (e ∙ same_next)

    pub with_rule : HasMarks study (record r { marks = r.marks + 1 }) (record s { marks = s.marks ++ Rule s.rows ∷ [] })
    with_rule = record { told = h.told; marks = (let m = h.marks in let k : length (s.marks ++ Rule s.rows ∷ []) ≡ length s.marks + 1 = length-append s.marks (Rule s.rows ∷ []) in omega (arith, m, k)); instances = table_holds.0 }

    pub table_taken : (after : SharpJudging) → SharpStands study after (after_mark study (record s { marks = s.marks ++ Rule s.rows ∷ [] })) → length s.rows ≡ sort_count study.size Profile → SharpStands study after (after_mark_row study s)
    table_taken after stands whole =
        subst (λ (b : Bool). SharpStands study after (cond b (after_mark study (record s { marks = s.marks ++ Rule s.rows ∷ [] })) s)) (sym ((Decides-eqb (length s.rows) (sort_count study.size Profile)).1 whole)) stands

  -- ---- the end

  pub end_taken : (s : SharpStanding) (r : SharpJudging) (text : List ℕ) → SharpStands study r s → s.place ≡ AtSharpEnd → read_past study AtSharpEnd text ≡ Some (Plain End) → IsSharpTaken study s text (record r { place = place.AtSharpNothing }) (Ok (said.Plain held.End))
  end_taken s r text h at read = (
    Plain End,
    ap (λ q. read_sharp_at study q s.told text) at ∙ read,
    refl,
    ap (λ q. plain_fault study q s End) at,
    subst (λ q. SharpStands study (record r { place = place.AtSharpNothing }) (advance_plain study q s End)) (sym at) (record { place = refl; told = h.told; marks = h.marks; rows = h.rows; at = subst (λ q. HoldsAt study q r s) at h.at }),
    λ n i. subst (λ q. IsReadWithin study (n + 1) (advance_plain study q s End)) (sym at) (wider study n s (record s { place = AtSharpNothing }) refl i),
  )
