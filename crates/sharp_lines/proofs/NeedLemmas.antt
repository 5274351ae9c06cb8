-- What is held of a line, by the parts that are read of it.
use Rattle.std.proofs.Common.{◌≡◌, refl, sym, ap, ◌∙◌, subst, ℕ, ◌-◌, ◌≤◌, Bool, true, false, cond, List, [], ◌∷◌, ◌++◌, length, take, drop, Option, Some, None, option_map, option_and_then, arith, length-append, ltb-true}
use Rattle.std.specs.Prelude.{codes, nat_lt}
use Rattle.std.specs.Str.{bytes_eq}
use Rattle.std.proofs.Math.Seq.{take-append_seam, drop-append_seam}
use Rattle.std.proofs.lemmas.Slice.Eq.{bytes_eq-Decides}
use Rattle.vocab.specs.Study.{Question}
use Rattle.meaning.specs.declared.stories.Reason.{Reason}
use Rattle.verdicts.specs.Lines.{End}
use Rattle.verdicts.specs.Texts.{words_of}
use Rattle.verdicts.specs.Reading.{keyed, no_word, read_cited}
use Rattle.report_lines.proofs.LineLemmas.{no_end}
use Rattle.report_lines.proofs.WordLemmas.{keyed_then}
use Rattle.sharp_verdicts.specs.SharpLines.{Plain}
use Rattle.sharp_verdicts.specs.SharpPlaces.{AtNeed, AtSharpEnd, read_mark, read_need, wanted_past, read_past}
use Rattle.sharp_lines.specs.declared.needs.Need.{Need}
use Rattle.sharp_lines.specs.Said.{IsNeedOf}

-- ---- the first line of a mark

module _ (study : Question) where
  after_needs : (words rest : List (List ℕ)) → keyed (codes "needs") (λ ws. Some ws) words ≡ Some rest → wanted_past study AtNeed words ≡ read_need study rest
  after_needs words rest e = keyed_then (codes "needs") (read_need study) words ∙ ap (option_and_then (read_need study)) e

  cut_at : (before : List (List ℕ)) (word last : List ℕ) (k : ℕ) → k ≡ length before
      → option_and_then (λ r. read_mark r (drop k (before ++ word ∷ last ∷ []))) (read_cited study (take k (before ++ word ∷ last ∷ []))) ≡ option_and_then (λ r. read_mark r (word ∷ last ∷ [])) (read_cited study before)
  cut_at before word last k e =
      ap (λ (n : ℕ). option_and_then (λ r. read_mark r (drop n (before ++ word ∷ last ∷ []))) (read_cited study (take n (before ++ word ∷ last ∷ [])))) e
      ∙ ap (λ (ws : List (List ℕ)). option_and_then (λ r. read_mark r ws) (read_cited study (take (length before) (before ++ word ∷ last ∷ [])))) (drop-append_seam before (word ∷ last ∷ []))
      ∙ ap (λ (ws : List (List ℕ)). option_and_then (λ r. read_mark r (word ∷ last ∷ [])) (read_cited study ws)) (take-append_seam before (word ∷ last ∷ []))

  -- with an instance and two words
  parted : (words rest before : List (List ℕ)) (word last : List ℕ) → keyed (codes "needs") (λ ws. Some ws) words ≡ Some rest → rest ≡ before ++ word ∷ last ∷ []
      → wanted_past study AtNeed words ≡ option_and_then (λ r. read_mark r (word ∷ last ∷ [])) (read_cited study before)
  parted words rest before word last e f =
      let n : length rest ≡ length (before ++ word ∷ last ∷ []) = ap length f in
      let k : length (before ++ word ∷ last ∷ []) - 2 ≡ length before = omega (arith, length-append before (word ∷ last ∷ [])) in
      after_needs words rest e ∙ ap (read_need study) f ∙ cut_at before word last (length (before ++ word ∷ last ∷ []) - 2) k

  -- where the words before the last two tell an instance, the line says what these two say
  pub a_cited : (words rest before : List (List ℕ)) (word last : List ℕ) (r : Reason) (need : Option Need) → keyed (codes "needs") (λ ws. Some ws) words ≡ Some rest → rest ≡ before ++ word ∷ last ∷ [] → Some r ≡ read_cited study before
      → IsNeedOf (read_mark r (word ∷ last ∷ [])) need → IsNeedOf (wanted_past study AtNeed words) need
  a_cited words rest before word last r need e f g h =
      subst (λ o. IsNeedOf o need) (sym (parted words rest before word last e f ∙ ap (option_and_then (λ q. read_mark q (word ∷ last ∷ []))) (sym g))) h

-- ---- the last line

pub end_is : (study : Question) (text : List ℕ) (b : Bool) → b ≡ bytes_eq text (codes "end") → length text ≤ 4096 → read_past study AtSharpEnd text ≡ cond b (Some (Plain End)) None
end_is study text b e short = short_read ∙ by_test b (sym e)
  where
    short_read : read_past study AtSharpEnd text ≡ option_map Plain (keyed (codes "end") (no_word End) (words_of text))
    short_read = by_length (nat_lt 4096 (length text)) refl
      where
        by_length : (t : Bool) → nat_lt 4096 (length text) ≡ t → cond t None (option_map Plain (keyed (codes "end") (no_word End) (words_of text))) ≡ option_map Plain (keyed (codes "end") (no_word End) (words_of text))
        by_length true f = absurd (omega (arith, short, ltb-true 4096 (length text) f))
        by_length false f = refl

    by_test : (t : Bool) → bytes_eq text (codes "end") ≡ t → option_map Plain (keyed (codes "end") (no_word End) (words_of text)) ≡ cond t (Some (Plain End)) None
    by_test true f = ap (λ (w : List ℕ). option_map Plain (keyed (codes "end") (no_word End) (words_of w))) ((bytes_eq-Decides text (codes "end")).0 f)
    by_test false f = sym (no_end Plain text f)
