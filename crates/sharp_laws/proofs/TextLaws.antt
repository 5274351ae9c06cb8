-- A line of a sharp text is cut into its words again, and is read again where it fits.
use Rattle.std.proofs.Common.{◌≡◌, refl, sym, ap, ◌∙◌, ℕ, ◌-◌, inl, inr, Bool, true, List, [], ◌∷◌, ◌++◌, length, take, drop, Some, None, option_map, option_and_then, arith, cond, length-append}
use Rattle.std.specs.Prelude.{codes}
use Rattle.std.specs.List.{list_all}
use Rattle.std.specs.Option.{option_or}
use Rattle.std.proofs.Math.Seq.{take-append_seam, drop-append_seam}
use Rattle.std.proofs.lemmas.Bool.{and_parts, and_from, not-true}
use Rattle.vocab.specs.Study.{Question}
use Rattle.meaning.specs.declared.stories.Reason.{Reason}
use Rattle.meaning.specs.declared.stories.Reason.TheVariants.{Axiom as ByAxiom}
use Rattle.meaning.proofs.TestLaws.{list_all-both}
use Rattle.verdicts.specs.Laws.{IsReportable}
use Rattle.verdicts.specs.Lines.{Line, Row, End, line_text, reason_words}
use Rattle.verdicts.specs.Numbers.{number_text}
use Rattle.verdicts.specs.Places.{AtWitnessRow, Standing}
use Rattle.verdicts.specs.Reading.{read_cited}
use Rattle.verdicts.specs.Texts.{joined_words, words_of}
use Rattle.verdicts.specs.Judge.{read_line}
use Rattle.verdicts.proofs.NumberLaws.{read_text}
use Rattle.verdicts.proofs.WordLaws.{lacks, split_joined}
use Rattle.verdicts.proofs.TextLaws.{is_word, number_word}
use Rattle.verdicts.proofs.LineLaws.{or_is}
use Rattle.verdicts.proofs.ReadLaws.{is_plain, reason_read, wanted_is, reason_words_ok, one_word_ok, line_words_ok, words_lack, joined_lacks}
use Rattle.verdicts.proofs.ReportLaws.{short, line_read}
use Rattle.sharp_verdicts.specs.SharpLines.{SharpLine, SharpTitle, Plain, InstancesAre, NeedsRule, NeedsOpen, after_first, sharp_words, sharp_line_text}
use Rattle.sharp_verdicts.specs.SharpPlaces.{SharpPlace, AtSharp, AtReport, AtInstances, AtNeed, AtNeedRow, AtSharpEnd, AtSharpNothing, not_possible, read_mark, read_need, wanted_past, read_past, read_sharp_at}
use Rattle.sharp_laws.proofs.FitLaws.{IsCited, SharpFits}

-- names that are names
abbrev pub is_sharp_plain : SharpLine → Bool
is_sharp_plain (Plain l) = is_plain l
is_sharp_plain l = true

-- the places past the story
abbrev pub IsPast : SharpPlace → Type 0
IsPast AtSharp = ⊥
IsPast AtReport = ⊥
IsPast place = Unit {0}

module _ (study : Question) (is : IsReportable study) where
  -- ---- words

  after_words : (ws : List (List ℕ)) → list_all is_word ws ≡ true → list_all is_word (after_first ws) ≡ true
  after_words [] h = refl
  after_words (w ∷ ws) h = (and_parts (is_word w) (list_all is_word ws) h).1

  mark_words_ok : (r : Reason) (key : List ℕ) (n : ℕ) → is_word key ≡ true → list_all is_word (after_first (reason_words study r) ++ key ∷ number_text n ∷ []) ≡ true
  mark_words_ok r key n h =
      list_all-both is_word (after_first (reason_words study r)) (key ∷ number_text n ∷ [])
      (after_words (reason_words study r) (reason_words_ok study is r))
      (and_from _ _ h (one_word_ok study is (number_text n) (number_word n)))

  sharp_words_ok : (l : SharpLine) → is_sharp_plain l ≡ true → (w : List ℕ) × (ws : List (List ℕ)) × (sharp_words study l ≡ w ∷ ws) × (list_all is_word (w ∷ ws) ≡ true)
  sharp_words_ok SharpTitle h = (_, _, refl, refl)
  sharp_words_ok (Plain l) h = line_words_ok study is l h
  sharp_words_ok (InstancesAre n) h = (_, _, refl, one_word_ok study is (number_text n) (number_word n))
  sharp_words_ok (NeedsRule r n) h = (_, _, refl, mark_words_ok r (codes "rule") n refl)
  sharp_words_ok (NeedsOpen r n) h = (_, _, refl, mark_words_ok r (codes "open") n refl)

  -- a line is cut into its words again
  pub sharp_words_are : (l : SharpLine) → is_sharp_plain l ≡ true → words_of (sharp_line_text study l) ≡ sharp_words study l
  sharp_words_are l h =
      let k = sharp_words_ok l h in
      ap (λ ws. words_of (joined_words ws)) k.2 ∙ split_joined 32 k.0 k.1 (words_lack study is 32 (k.0 ∷ k.1) (omega arith) k.3) ∙ sym k.2

  -- it has no line end
  pub sharp_line_lacks : (l : SharpLine) → is_sharp_plain l ≡ true → lacks 10 (sharp_line_text study l) ≡ true
  sharp_line_lacks l h =
      let k = sharp_words_ok l h in
      ap (λ ws. lacks 10 (joined_words ws)) k.2 ∙ joined_lacks study is (k.0 ∷ k.1) (words_lack study is 10 (k.0 ∷ k.1) (omega arith) k.3)

  -- ---- what is read again

  cited_again : (r : Reason) → IsCited study r → read_cited study (after_first (reason_words study r)) ≡ Some r
  cited_again (ByAxiom k values) h = elim (or_is (read_cited study (after_first (reason_words study (ByAxiom k values)))) None (ByAxiom k values) (reason_read study is (ByAxiom k values) h)) [
    | inl e ↦ e
    | inr e ↦ absurd (cc)
  ]
  cited_again r h = absurd h

  need_again : (r : Reason) (a b : List ℕ) → IsCited study r → read_need study (after_first (reason_words study r) ++ a ∷ b ∷ []) ≡ read_mark r (a ∷ b ∷ [])
  need_again r a b h =
      let front = after_first (reason_words study r) in
      let words = front ++ a ∷ b ∷ [] in
      let count : length words - 2 ≡ length front = omega (arith, length-append front (a ∷ b ∷ [])) in
      ap (λ n. option_and_then (λ q. read_mark q (drop n words)) (read_cited study (take n words))) count
      ∙ ap (λ ws. option_and_then (λ q. read_mark q ws) (read_cited study (take (length front) words))) (drop-append_seam front (a ∷ b ∷ []))
      ∙ ap (λ ws. option_and_then (λ q. read_mark q (a ∷ b ∷ [])) (read_cited study ws)) (take-append_seam front (a ∷ b ∷ []))
      ∙ ap (option_and_then (λ q. read_mark q (a ∷ b ∷ []))) (cited_again r h)

  pub wanted_again : (place : SharpPlace) (told : Standing) (l : SharpLine) → IsPast place → SharpFits study place told l → wanted_past study place (sharp_words study l) ≡ Some l
  wanted_again AtSharp told l q f = absurd q
  wanted_again AtReport told l q f = absurd q
  wanted_again AtInstances told (InstancesAre n) q f = ap (option_map InstancesAre) (read_text n)
  wanted_again AtNeed told (NeedsRule r n) q f =
      need_again r (codes "rule") (number_text n) f
      ∙ ap (λ o. option_or (option_map (NeedsRule r) o) None) (read_text n)
  wanted_again AtNeed told (NeedsOpen r n) q f = need_again r (codes "open") (number_text n) f ∙ ap (option_map (NeedsOpen r)) (read_text n)
  wanted_again AtNeedRow told (Plain (Row p o)) q f = ap (option_map Plain) (wanted_is study is AtWitnessRow 0 (Row p o) f refl)
  wanted_again AtSharpEnd told (Plain End) q f = refl
  wanted_again place told l q f = absurd f

  past_again : (place : SharpPlace) (told : Standing) (l : SharpLine) → IsPast place → SharpFits study place told l → is_sharp_plain l ≡ true → short (sharp_line_text study l) ≡ true
      → read_past study place (sharp_line_text study l) ≡ Some l
  past_again place told l q f p h =
      ap (λ b. cond b None (wanted_past study place (words_of (sharp_line_text study l)))) (not-true _ h)
      ∙ ap (wanted_past study place) (sharp_words_are l p)
      ∙ wanted_again place told l q f

  report_again : (told : Standing) (k : Line) → SharpFits study AtReport told (Plain k) → is_plain k ≡ true → short (line_text study k) ≡ true → not_possible (read_line study told (line_text study k)) ≡ Some (Plain k)
  report_again told k f p h = ap not_possible (line_read study is told k f.0 p h) ∙ f.1

  -- a line that fits is read
  pub line_again : (place : SharpPlace) (told : Standing) (l : SharpLine) → SharpFits study place told l → is_sharp_plain l ≡ true → short (sharp_line_text study l) ≡ true
      → read_sharp_at study place told (sharp_line_text study l) ≡ Some l
  line_again AtSharp told SharpTitle f p h = refl
  line_again AtReport told (Plain k) f p h = report_again told k f p h
  line_again AtInstances told l f p h = past_again AtInstances told l tt f p h
  line_again AtNeed told l f p h = past_again AtNeed told l tt f p h
  line_again AtNeedRow told l f p h = past_again AtNeedRow told l tt f p h
  line_again AtSharpEnd told l f p h = past_again AtSharpEnd told l tt f p h
  line_again AtSharpNothing told l f p h = past_again AtSharpNothing told l tt f p h
  line_again place told l f p h = absurd f
