-- Lines of a sharp text: a faulty one stays the first faulty one, and of a line that is too long the front tells as much.
use Rattle.std.proofs.Common.{◌≡◌, refl, sym, ap, ◌∙◌, subst, ℕ, ◌+◌, inl, inr, true, List, [], ◌∷◌, ◌++◌, length, arith, cond, Some, None, lt-ltb}
use Rattle.std.proofs.lemmas.Bool.{cases_lt}
use Rattle.std.specs.Prelude.{nat_lt}
use Rattle.vocab.specs.Study.{Question}
use Rattle.verdicts.specs.Texts.{words_of}
use Rattle.verdicts.specs.declared.refusals.Refusal.TheVariants.{Form}
use Rattle.verdicts.specs.FirstFault.{Told, Good, Refused}
use Rattle.verdicts.specs.Judge.{pieces, front, final}
use Rattle.verdicts.proofs.FirstFaultLaws.{after_refused, same_last}
use Rattle.sharp_verdicts.specs.declared.refusals.SharpRefusal.{SharpRefusal}
use Rattle.sharp_verdicts.specs.declared.refusals.SharpRefusal.TheVariants.{Report}
use Rattle.sharp_verdicts.specs.SharpLines.{SharpTitle}
use Rattle.sharp_verdicts.specs.SharpPlaces.{SharpPlace, AtSharp, AtReport, AtInstances, AtNeed, AtNeedRow, AtSharpEnd, AtSharpNothing, SharpStanding, sharp_start, not_possible, wanted_past, read_past, read_sharp_at, read_sharp_line}
use Rattle.sharp_verdicts.specs.SharpFaults.{sharp_fault}
use Rattle.sharp_verdicts.specs.SharpJudge.{advance_sharp, sharp_line_fault, sharp_after, sharp_judge_from, sharp_judge, at_sharp_end, sharp_conclude, sharp_answer}
use Rattle.sharp_report.specs.declared.progress.SharpProgress.{SharpProgress}
use Rattle.sharp_report.specs.SharpStands.{SharpStandsAs, SharpStandsFor}
use Rattle.report_files.specs.Pieces.{head_of}
use Rattle.report_files.proofs.PieceLemmas.{pieces_count}
use Rattle.report_files.proofs.LineLemmas.{head_read, same_length}
use Rattle.report_files.proofs.TitleLemmas.{head_title}
use Rattle.std.proofs.lemmas.List.{length-take-le, take_all}

module _ (study : Question) where
  -- ---- a line that is too long

  head_past : (p : SharpPlace) (line : List ℕ) → read_past study p (head_of line) ≡ read_past study p line
  head_past p line = elim (cases_lt 4096 (length line)) [
    | inl long ↦
        let same : length (head_of line) ≡ 4097 = length-take-le 4097 line (omega (arith, long)) in
        let cut : nat_lt 4096 (length (head_of line)) ≡ true = lt-ltb 4096 (length (head_of line)) (omega (arith, same)) in
        ap (λ b. cond b None (wanted_past study p (words_of (head_of line)))) cut
        ∙ sym (ap (λ b. cond b None (wanted_past study p (words_of line))) (lt-ltb 4096 (length line) long))
    | inr short ↦ ap (read_past study p) (take_all 4097 line (omega (arith, short)))
  ]

  head_sharp_read : (s : SharpStanding) (line : List ℕ) → read_sharp_line study s (head_of line) ≡ read_sharp_line study s line
  head_sharp_read s line = by_place s.place
    where
      by_place : (p : SharpPlace) → read_sharp_at study p s.told (head_of line) ≡ read_sharp_at study p s.told line
      by_place AtSharp = ap (λ b. cond b (Some SharpTitle) None) (head_title line)
      by_place AtReport = ap not_possible (head_read study s.told line)
      by_place AtInstances = head_past AtInstances line
      by_place AtNeed = head_past AtNeed line
      by_place AtNeedRow = head_past AtNeedRow line
      by_place AtSharpEnd = head_past AtSharpEnd line
      by_place AtSharpNothing = head_past AtSharpNothing line

  head_sharp_judge : (n : ℕ) (s : SharpStanding) (lines : List (List ℕ)) (line : List ℕ) → sharp_judge_from study n s (lines ++ head_of line ∷ []) ≡ sharp_judge_from study n s (lines ++ line ∷ [])
  head_sharp_judge n s lines line = same_last (read_sharp_line study) (sharp_fault study) (Report Form) (advance_sharp study) n s lines (head_of line) line (λ t. head_sharp_read t line)

  -- a checker that was given the front of a line stands for the line
  pub head_sharp_stands : (p : SharpProgress) (lines : List (List ℕ)) (line : List ℕ) → SharpStandsFor study p (lines ++ head_of line ∷ []) → SharpStandsFor study p (lines ++ line ∷ [])
  head_sharp_stands p lines line h =
      let same : length (lines ++ head_of line ∷ []) ≡ length (lines ++ line ∷ []) = same_length lines (head_of line) line in (
        h.0 ∙ same,
        subst (λ n. SharpStandsAs study n p.fault p.judging (sharp_judge study (lines ++ line ∷ []))) same
            (subst (SharpStandsAs study (length (lines ++ head_of line ∷ [])) p.fault p.judging) (head_sharp_judge 1 sharp_start lines line) h.1),
      )

  -- ---- a fault stays

  -- whatever lines follow a faulty one
  pub sharp_refused_more : (lines more : List (List ℕ)) (m : ℕ) (word : SharpRefusal) → sharp_judge study lines ≡ Refused m word → sharp_judge study (lines ++ more) ≡ Refused m word
  sharp_refused_more lines more m word e = after_refused (sharp_line_fault study) (sharp_after study) 1 sharp_start lines more m word e

  -- ---- the end of a text

  -- the end of a text is judged by the front of its last piece
  pub head_sharp_concludes : (text held : List ℕ) → held ≡ head_of (final (pieces text)) → sharp_conclude study (length (front (pieces text)) + 1) held (sharp_judge study (front (pieces text))) ≡ sharp_answer study text
  head_sharp_concludes text held e =
      ap (λ n. sharp_conclude study n held (sharp_judge study (front (pieces text)))) (sym (pieces_count text))
      ∙ ap (λ rest. sharp_conclude study (length (pieces text)) rest (sharp_judge study (front (pieces text)))) e
      ∙ by_told (sharp_judge study (front (pieces text)))
    where
      by_rest : (n : ℕ) (rest : List ℕ) (p : SharpPlace) (s : SharpStanding) → at_sharp_end study n (head_of rest) p s ≡ at_sharp_end study n rest p s
      by_rest n [] p s = refl
      by_rest n (x ∷ rest) p s = refl

      by_told : (told : Told SharpStanding SharpRefusal) → sharp_conclude study (length (pieces text)) (head_of (final (pieces text))) told ≡ sharp_conclude study (length (pieces text)) (final (pieces text)) told
      by_told (Good s) = by_rest (length (pieces text)) (final (pieces text)) s.place s
      by_told (Refused n word) = refl
