-- Which lines of a sharp text can stand at a place, and that a line that is read is one of these and has its text.
use Rattle.std.proofs.Common.{◌≡◌, refl, sym, ap, ◌∙◌, subst, ℕ, ◌+◌, ◌-◌, ◌<◌, inl, inr, Bool, true, false, List, [], ◌∷◌, ◌++◌, length, take, drop, Option, Some, None, option_map, cond}
use Rattle.std.specs.Prelude.{codes, nat_lt, slice_get}
use Rattle.std.specs.Str.{bytes_eq}
use Rattle.std.proofs.lemmas.List.{take-append-drop}
use Rattle.std.proofs.lemmas.List.Splits.{join_with_byte-slice_split}
use Rattle.std.proofs.lemmas.Slice.Eq.{bytes_eq-Decides}
use Rattle.vocab.specs.declared.kinds.Sort.TheVariants.{Profile}
use Rattle.vocab.specs.Size.{outcome_count, sort_count}
use Rattle.vocab.specs.Study.{Question}
use Rattle.meaning.specs.declared.stories.Reason.{Reason}
use Rattle.meaning.specs.declared.stories.Reason.TheVariants.{Axiom as ByAxiom}
use Rattle.verdicts.specs.Lines.{Line, SaysPossible, Row, End, reason_words, sorts_of}
use Rattle.verdicts.specs.Numbers.{number_text, read_number}
use Rattle.verdicts.specs.Places.{AtWitnessRow, Standing}
use Rattle.verdicts.specs.Reading.{keyed, one_word, no_word, read_axiom, read_values, read_cited, read_row}
use Rattle.verdicts.specs.Report.{is_reason}
use Rattle.verdicts.specs.Texts.{joined_words, words_of}
use Rattle.verdicts.specs.Judge.{read_line}
use Rattle.verdicts.proofs.NumberLaws.{text_read}
use Rattle.verdicts.proofs.LineLaws.{map_is, then_is, or_is, test_is, keyed_is, one_is, none_is, cited_read, wanted_read}
use Rattle.verdicts.proofs.FitLaws.{Fits, cited_in, wanted_fits}
use Rattle.verdicts.proofs.JudgeLaws.{not_long, read_is}
use Rattle.sharp_verdicts.specs.SharpLines.{SharpLine, SharpTitle, Plain, InstancesAre, NeedsRule, NeedsOpen, after_first, sharp_words, sharp_line_text}
use Rattle.sharp_verdicts.specs.SharpPlaces.{SharpPlace, AtSharp, AtReport, AtInstances, AtNeed, AtNeedRow, AtSharpEnd, AtSharpNothing, SharpStanding, not_possible, read_need, wanted_past, read_past, read_sharp_at, read_sharp_line}

-- a line of a report that a sharp text may have says of no rule that it is possible
abbrev pub IsSaid : Line → Type 0
IsSaid l = not_possible (Some l) ≡ Some (Plain l)

said_is : (o : Option Line) (l : SharpLine) → not_possible o ≡ Some l → (k : Line) × (o ≡ Some k) × IsSaid k × (Plain k ≡ l)
said_is None l e = absurd (cc)
said_is (Some SaysPossible) l e = absurd (cc)
said_is (Some k) l e = let same : Plain k ≡ l = cc in (k, refl, refl, same)

module _ (study : Question) where
  abbrev P : ℕ
  P = sort_count study.size Profile

  abbrev K : ℕ
  K = outcome_count study.size.kind study.size.alternatives

  -- an axiom of the study with its values
  abbrev pub IsCited : Reason → Type 0
  IsCited (ByAxiom k values) = is_reason study (ByAxiom k values) ≡ true
  IsCited r = ⊥

  -- a line that the grammar has at a place, with all that it names in range
  abbrev pub SharpFits : SharpPlace → Standing → SharpLine → Type 0
  SharpFits AtSharp told SharpTitle = Unit {0}
  SharpFits AtReport told (Plain l) = Fits study told.place (length told.earlier + 1) l × IsSaid l
  SharpFits AtInstances told (InstancesAre n) = Unit {0}
  SharpFits AtNeed told (NeedsRule r n) = IsCited r
  SharpFits AtNeed told (NeedsOpen r n) = IsCited r
  SharpFits AtNeedRow told (Plain (Row p o)) = (p < P) × (o < K)
  SharpFits AtSharpEnd told (Plain End) = Unit {0}
  SharpFits _ told line = ⊥

  cited_fits : (words : List (List ℕ)) (r : Reason) → read_cited study words ≡ Some r → IsCited r
  cited_fits [] r e = absurd (cc)
  cited_fits (name ∷ words) r e =
      let t = then_is _ (read_axiom study.axioms name) r e in
      let m = map_is (ByAxiom t.0) (read_values study (sorts_of (slice_get study.axioms t.0)) words) r t.2 in
      subst IsCited m.2 (subst (λ x. is_reason study x ≡ true) (sym m.2) (cited_in study (name ∷ words) r e))

  -- ---- marks

  abbrev mark_of : (Reason → ℕ → SharpLine) → Reason → List ℕ → Option SharpLine
  mark_of f r w = option_map (f r) (read_number w)

  -- the words of a mark
  mark_is : (key : List ℕ) (f : Reason → ℕ → SharpLine) (r : Reason) (words : List (List ℕ)) (l : SharpLine)
      → keyed key (one_word (mark_of f r)) words ≡ Some l
      → (n : ℕ) × (words ≡ key ∷ number_text n ∷ []) × (f r n ≡ l)
  mark_is key f r words l e =
      let k = keyed_is key _ words l e in
      let o = one_is _ k.0 l k.2 in
      let m = map_is (f r) (read_number o.0) l o.2 in
      (m.0, k.1 ∙ ap (λ ws. key ∷ ws) (o.1 ∙ ap (λ w. w ∷ []) (text_read o.0 m.0 m.1)), m.2)

  -- an instance and its mark, after `needs`
  need_read : (told : Standing) (words : List (List ℕ)) (l : SharpLine) → read_need study words ≡ Some l
      → SharpFits AtNeed told l × (codes "needs" ∷ words ≡ sharp_words study l)
  need_read told words l e =
      let t = then_is _ (read_cited study front) l e in
      let cited = cited_fits front t.0 t.1 in
      let front_is : front ≡ after_first (reason_words study t.0) = ap after_first (cited_read study front t.0 t.1) in
      let whole : front ++ rest ≡ words = take-append-drop (length words - 2) words in
      elim (or_is (keyed (codes "rule") (one_word (mark_of NeedsRule t.0)) rest) _ l t.2) [
        | inl a ↦
            let m = mark_is (codes "rule") NeedsRule t.0 rest l a in (
              subst (SharpFits AtNeed told) m.2 cited,
              ap (λ ws. codes "needs" ∷ ws) (sym whole ∙ ap (λ ws. ws ++ rest) front_is ∙ ap (λ ws. after_first (reason_words study t.0) ++ ws) m.1)
                  ∙ ap (sharp_words study) m.2,
            )
        | inr b ↦
            let m = mark_is (codes "open") NeedsOpen t.0 rest l b in (
              subst (SharpFits AtNeed told) m.2 cited,
              ap (λ ws. codes "needs" ∷ ws) (sym whole ∙ ap (λ ws. ws ++ rest) front_is ∙ ap (λ ws. after_first (reason_words study t.0) ++ ws) m.1)
                  ∙ ap (sharp_words study) m.2,
            )
      ]
    where
      front : List (List ℕ)
      front = take (length words - 2) words

      rest : List (List ℕ)
      rest = drop (length words - 2) words

  -- ---- what is read

  -- a line past the story
  past_read : (place : SharpPlace) (told : Standing) (words : List (List ℕ)) (l : SharpLine) → wanted_past study place words ≡ Some l
      → SharpFits place told l × (words ≡ sharp_words study l)
  past_read AtInstances told words l e =
      let k = keyed_is (codes "instances") _ words l e in
      let o = one_is _ k.0 l k.2 in
      let m = map_is InstancesAre (read_number o.0) l o.2 in (
        subst (SharpFits AtInstances told) m.2 tt,
        k.1 ∙ ap (λ ws. codes "instances" ∷ ws) (o.1 ∙ ap (λ w. w ∷ []) (text_read o.0 m.0 m.1)) ∙ ap (sharp_words study) m.2,
      )
  past_read AtNeed told words l e =
      let k = keyed_is (codes "needs") _ words l e in
      let r = need_read told k.0 l k.2 in
      (r.0, k.1 ∙ r.1)
  past_read AtNeedRow told words l e =
      let m = map_is Plain (read_row study words) l e in
      let fits = wanted_fits study AtWitnessRow 0 words m.0 m.1 in
      (subst (SharpFits AtNeedRow told) m.2 (row_fits m.0 fits), wanted_read study AtWitnessRow 0 words m.0 m.1 ∙ ap (sharp_words study) m.2)
    where
      row_fits : (k : Line) → Fits study AtWitnessRow 0 k → SharpFits AtNeedRow told (Plain k)
      row_fits (Row p o) f = f
      row_fits k f = absurd f
  past_read AtSharpEnd told words l e =
      let m = map_is Plain (keyed (codes "end") (no_word End) words) l e in
      let k = keyed_is (codes "end") _ words m.0 m.1 in
      let n = none_is End k.0 m.0 k.2 in
      let same : Plain End ≡ l = ap Plain n.1 ∙ m.2 in
      (subst (SharpFits AtSharpEnd told) same tt, k.1 ∙ ap (λ ws. codes "end" ∷ ws) n.0 ∙ ap (sharp_words study) same)
  past_read place told words l e = absurd (cc)

  short_past : (place : SharpPlace) (told : Standing) (text : List ℕ) (l : SharpLine) → read_past study place text ≡ Some l
      → SharpFits place told l × (text ≡ sharp_line_text study l)
  short_past place told text l e =
      let r = past_read place told (words_of text) l (some_past (nat_lt 4096 (length text)) (wanted_past study place (words_of text)) e) in
      (r.0, sym (join_with_byte-slice_split 32 text) ∙ ap joined_words r.1)
    where
      some_past : (b : Bool) (o : Option SharpLine) → cond b None o ≡ Some l → o ≡ Some l
      some_past true o e = absurd (cc)
      some_past false o e = e

  read_at : (place : SharpPlace) (told : Standing) (text : List ℕ) (l : SharpLine) → read_sharp_at study place told text ≡ Some l
      → SharpFits place told l × (text ≡ sharp_line_text study l)
  read_at AtSharp told text l e =
      let t = test_is (bytes_eq text (codes "bench sharp 1")) (Some SharpTitle) l e in
      let same : SharpTitle ≡ l = cc in
      (subst (SharpFits AtSharp told) same tt, (bytes_eq-Decides text (codes "bench sharp 1")).0 t.0 ∙ ap (sharp_line_text study) same)
  read_at AtReport told text l e =
      let k = said_is (read_line study told text) l e in
      let fits = wanted_fits study told.place (length told.earlier + 1) (words_of text) k.0 (not_long (nat_lt 4096 (length text)) _ k.0 k.1) in
      (subst (SharpFits AtReport told) k.3 (fits, k.2), read_is study told text k.0 k.1 ∙ ap (sharp_line_text study) k.3)
  read_at AtInstances told text l e = short_past AtInstances told text l e
  read_at AtNeed told text l e = short_past AtNeed told text l e
  read_at AtNeedRow told text l e = short_past AtNeedRow told text l e
  read_at AtSharpEnd told text l e = short_past AtSharpEnd told text l e
  read_at AtSharpNothing told text l e = short_past AtSharpNothing told text l e

  -- a line that is read fits where the reader stands, and has this text
  pub line_fits : (s : SharpStanding) (text : List ℕ) (l : SharpLine) → read_sharp_line study s text ≡ Some l
      → SharpFits s.place s.told l × (text ≡ sharp_line_text study l)
  line_fits s text l e = read_at s.place s.told text l e
