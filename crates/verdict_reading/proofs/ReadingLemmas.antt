-- What is read of a text and of a file.
use Rattle.std.proofs.Common.{◌≡◌, refl, sym, ap, ◌∙◌, ℕ, ◌+◌, Bool, true, false, true≢false, List, length, Option, Some, None, ◌<◌, arith, cond, take, drop, take-append-drop}
use Rattle.std.specs.Prelude.{IfSome, IsSome}
use Rattle.edge.specs.Shelf.{Files}
use Rattle.vocab.specs.Study.{Question}
use Rattle.verdicts.specs.declared.verdicts.Verdict.{Verdict}
use Rattle.verdicts.specs.FirstFault.{Told, Judgement, Confirmed, Faulty, TooLong, beyond}
use Rattle.verdicts.specs.Judge.{judge, conclude, answered_within, answer, answer_within, pieces, front, final}
use Rattle.verdicts.proofs.WholeTextLaws.{long_within, not_beyond}
use Rattle.verdicts.proofs.ClaimLaws.{within_limit}
use Rattle.verdicts.proofs.JudgeLaws.{judge_sound}
use Rattle.sharp_verdicts.specs.Judged.{Judged, AsReport, AsSharp, has_sharp_title, judged_within}
use Rattle.sharp_verdicts.specs.SharpJudge.{sharp_judge, sharp_conclude, sharp_answer, sharp_answer_within}
use Rattle.sharp_laws.proofs.ApartLaws.{report_given, sharp_given}
use Rattle.sharp_laws.proofs.FaultLaws.{within_limit as sharp_within_limit}
use Rattle.sharp_laws.proofs.JudgeLaws.{judge_sound as sharp_judge_sound}
use Rattle.report_files.specs.Files.{most_verdict_bytes}
use Rattle.report_files.proofs.EndedLemmas.{whole_within, limit_is, whole_is}
use Rattle.report_files.proofs.PieceLemmas.{pieces_count}
use Rattle.report_files.proofs.TitleLemmas.{title_within}
use Rattle.verdict_reading.specs.declared.reading.Reading.{Reading}
use Rattle.verdict_reading.specs.declared.reading.Reading.TheVariants as reading
use Rattle.verdict_reading.specs.declared.sharp_verdict.SharpVerdict.{SharpVerdict}
use Rattle.verdict_reading.specs.SharpCollected.{as_read, as_said}
use Rattle.verdict_reading.specs.Readings.{reading_of, judged_whole, judged_end, judged_front, IsRightOf, ReadingHolds, IsFileFront, IsReadOf}

-- ---- right verdicts

-- a report is confirmed, or a sharp text is
confirmed_is : (a : Judged) (v : Verdict) → reading_of a ≡ reading.Confirmed v → a ≡ AsReport (Confirmed v)
confirmed_is (AsReport (Confirmed w)) v e = let same : w ≡ v = cc in ap (λ x. AsReport (Confirmed x)) same
confirmed_is (AsReport (Faulty line word)) v e = absurd (cc)
confirmed_is (AsReport TooLong) v e = absurd (cc)
confirmed_is (AsSharp (Confirmed w)) v e = absurd (cc)
confirmed_is (AsSharp (Faulty line word)) v e = absurd (cc)
confirmed_is (AsSharp TooLong) v e = absurd (cc)

sharp_is : (a : Judged) (v : SharpVerdict) → reading_of a ≡ reading.SharpConfirmed v → a ≡ AsSharp (Confirmed (as_said v))
sharp_is (AsReport (Confirmed w)) v e = absurd (cc)
sharp_is (AsReport (Faulty line word)) v e = absurd (cc)
sharp_is (AsReport TooLong) v e = absurd (cc)
sharp_is (AsSharp (Confirmed w)) v e = let same : as_read w ≡ v = cc in ap (λ (x : SharpVerdict). AsSharp (Confirmed (as_said x))) same
sharp_is (AsSharp (Faulty line word)) v e = absurd (cc)
sharp_is (AsSharp TooLong) v e = absurd (cc)

module _ (study : Question) (text : List ℕ) where
  pub right_of : (r : Reading) → r ≡ reading_of (judged_whole study text) → IsRightOf study text r
  right_of r e = record {
    report = λ v is. judge_sound study text v (report_given (has_sharp_title text) (sharp_answer study text) (answer study text) (Confirmed v) (confirmed_is (judged_whole study text) v (sym e ∙ is)));
    sharp = λ v is. sharp_judge_sound study text (as_said v) (sharp_given (has_sharp_title text) (sharp_answer study text) (Confirmed (as_said v)) (answer study text) (sharp_is (judged_whole study text) v (sym e ∙ is)));
  }

  right_within : (r : Reading) → r ≡ reading_of (judged_within most_verdict_bytes study text) → IsRightOf study text r
  right_within r e = record {
    report = λ v is.
        let confirmed = report_given (has_sharp_title text) (sharp_answer_within most_verdict_bytes study text) (answer_within most_verdict_bytes study text) (Confirmed v) (confirmed_is (judged_within most_verdict_bytes study text) v (sym e ∙ is)) in
        judge_sound study text v ((within_limit most_verdict_bytes study text v).0 confirmed).1;
    sharp = λ v is.
        let confirmed = sharp_given (has_sharp_title text) (sharp_answer_within most_verdict_bytes study text) (Confirmed (as_said v)) (answer_within most_verdict_bytes study text) (sharp_is (judged_within most_verdict_bytes study text) v (sym e ∙ is)) in
        sharp_judge_sound study text (as_said v) ((sharp_within_limit most_verdict_bytes study text (as_said v)).0 confirmed).1;
  }

  -- the answer to a text that is whole
  pub whole_is_front : judged_front study true text ≡ judged_whole study text
  whole_is_front = ap (λ n. cond (has_sharp_title text) (AsSharp (sharp_conclude study n (final (pieces text)) (sharp_judge study (front (pieces text))))) (AsReport (conclude n (final (pieces text)) (judge study (front (pieces text)))))) (sym (pieces_count text))

  -- what is confirmed of a text is so of one that is whole
  pub front_holds : (whole : Bool) (r : Reading) → r ≡ reading_of (judged_front study whole text) → ReadingHolds study r
  front_holds true r e =
      let right = right_of r (e ∙ ap reading_of whole_is_front) in
      record { report = λ v is. (text, right.report v is); sharp = λ v is. (text, right.sharp v is) }
  front_holds false r e = record {
    report = λ v is. absurd (not_beyond (judge study (front (pieces text))) v (report_given (has_sharp_title text) (beyond (sharp_judge study (front (pieces text)))) (beyond (judge study (front (pieces text)))) (Confirmed v) (confirmed_is (judged_front study false text) v (sym e ∙ is))));
    sharp = λ v is. absurd (not_beyond (sharp_judge study (front (pieces text))) (as_said v) (sharp_given (has_sharp_title text) (beyond (sharp_judge study (front (pieces text)))) (Confirmed (as_said v)) (beyond (judge study (front (pieces text)))) (sharp_is (judged_front study false text) v (sym e ∙ is))));
  }

-- ---- files

-- as many bytes as are read are few
pub front_fits : (whole : Bool) (before now : Option (List ℕ)) (bytes : List ℕ) → IsFileFront whole before now bytes → length bytes < 4294967294
front_fits true before now bytes h = let fits = h.2 in omega (arith, fits)
front_fits false before now bytes h = let fits = h.3 in omega (arith, fits)

-- what a judge answers of a file that is held, by what was read of it
module _ {S V R : Type 0} (conclude_with : ℕ → List ℕ → Told S R → Judgement V R) (judged : List (List ℕ) → Told S R) where
  front_within : (whole : Bool) (known left : Option (List ℕ)) (bytes held : List ℕ) → IsFileFront whole known left bytes → known ≡ Some held
      → answered_within conclude_with judged most_verdict_bytes held ≡ judged_end conclude_with whole (length (front (pieces bytes)) + 1) (final (pieces bytes)) (judged (front (pieces bytes)))
  front_within true known left bytes held h k =
      whole_within conclude_with judged known left false bytes held h k
      ∙ ap (λ n. conclude_with n (final (pieces bytes)) (judged (front (pieces bytes)))) (pieces_count bytes)
  front_within false known left bytes held h k =
      let parts = limit_is known left false bytes held h k in
      long_within conclude_with judged most_verdict_bytes held parts.0 ∙ ap (λ (t : List ℕ). beyond (judged (front (pieces t)))) parts.1

-- the front of a file tells which judge it is
front_title : (whole : Bool) (known left : Option (List ℕ)) (bytes held : List ℕ) → IsFileFront whole known left bytes → known ≡ Some held → has_sharp_title held ≡ has_sharp_title bytes
front_title true known left bytes held h k = ap has_sharp_title (whole_is known left false bytes held h k).0
front_title false known left bytes held h k =
    let parts = limit_is known left false bytes held h k in
    let count : length (take most_verdict_bytes held) ≡ length bytes = ap length parts.1 in
    ap has_sharp_title (sym (take-append-drop most_verdict_bytes held))
    ∙ title_within (take most_verdict_bytes held) (drop most_verdict_bytes held) (omega (arith, count, h.3))
    ∙ ap has_sharp_title parts.1

module _ (study : Question) where
  held_is : (known left : Option (List ℕ)) (whole : Bool) (bytes held : List ℕ) (r : Reading) → IsFileFront whole known left bytes → known ≡ Some held
      → r ≡ reading_of (judged_front study whole bytes) → r ≡ reading_of (judged_within most_verdict_bytes study held)
  held_is known left whole bytes held r h k e =
      let n = length (front (pieces bytes)) + 1 in
      let sharp = front_within (sharp_conclude study) (sharp_judge study) whole known left bytes held h k in
      let report = front_within conclude (judge study) whole known left bytes held h k in
      e ∙ sym (ap reading_of (
      ap (λ b. cond b (AsSharp (sharp_answer_within most_verdict_bytes study held)) (AsReport (answer_within most_verdict_bytes study held))) (front_title whole known left bytes held h k)
      ∙ ap (λ x. cond (has_sharp_title bytes) (AsSharp x) (AsReport (answer_within most_verdict_bytes study held))) sharp
      ∙ ap (λ y. cond (has_sharp_title bytes) (AsSharp (judged_end (sharp_conclude study) whole n (final (pieces bytes)) (sharp_judge study (front (pieces bytes))))) (AsReport y)) report))

  -- what is read of the file that is held
  read_of : (files : Files) (name held : List ℕ) (r : Reading) → files name ≡ Some held → r ≡ reading_of (judged_within most_verdict_bytes study held) → IsReadOf study files name r
  read_of files name held r h e = record { bytes = held; held = h; is = e; right = right_within study held r e }

  -- and where the shelf tells its files
  pub file_read : (told : Option Files) (name : List ℕ) (known left : Option (List ℕ)) (whole : Bool) (bytes : List ℕ) (r : Reading)
      → IfSome told (λ files. IsSome (files name)) → IfSome told (λ files. known ≡ files name) → IsFileFront whole known left bytes
      → r ≡ reading_of (judged_front study whole bytes) → IfSome told (λ files. IsReadOf study files name r)
  file_read None name known left whole bytes r held starts h e = tt
  file_read (Some files) name known left whole bytes r held starts h e = by_held (files name) refl held
    where
      by_held : (o : Option (List ℕ)) → files name ≡ o → IsSome o → IsReadOf study files name r
      by_held None is none = absurd (true≢false (sym none))
      by_held (Some text) is some = read_of files name text r is (held_is known left whole bytes text r h (starts ∙ is) e)
