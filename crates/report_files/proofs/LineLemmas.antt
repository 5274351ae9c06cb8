-- Lines of a report: a faulty one stays the first faulty one, and of a line that is too long the front tells as much.
use Rattle.std.proofs.Common.{◌≡◌, refl, sym, ap, ◌∙◌, subst, ℕ, suc, ◌+◌, inl, inr, true, false, true≢false, List, [], ◌∷◌, ◌++◌, length, arith, cond, None, lt-ltb}
use Rattle.std.proofs.lemmas.Bool.{cases_lt}
use Rattle.std.specs.Prelude.{◌==◌, nat_lt}
use Rattle.vocab.specs.Study.{Question}
use Rattle.verdicts.specs.declared.refusals.Refusal.{Refusal}
use Rattle.verdicts.specs.declared.refusals.Refusal.TheVariants.{Form}
use Rattle.verdicts.specs.Faults.{fault_of}
use Rattle.verdicts.specs.Texts.{words_of}
use Rattle.verdicts.specs.Places.{Place, Standing, start, wanted}
use Rattle.verdicts.specs.FirstFault.{Told, Good, Refused}
use Rattle.verdicts.specs.Judge.{advance, read_line, line_fault, after, judge, pieces, front, final, at_end, conclude, answer, rule_of}
use Rattle.verdicts.proofs.FirstFaultLaws.{after_refused, same_last}
use Rattle.report.specs.declared.progress.Progress.{Progress}
use Rattle.report.specs.Stands.{StandsAt, StandsFor}
use Rattle.report_files.specs.Pieces.{head_of}
use Rattle.report_files.proofs.PieceLemmas.{pieces_count}
use Rattle.std.proofs.lemmas.List.{length-take-le, take_all}

-- ---- a line that is too long

-- of a line that is too long the front tells as much
pub head_read : (study : Question) (s : Standing) (line : List ℕ) → read_line study s (head_of line) ≡ read_line study s line
head_read study s line = elim (cases_lt 4096 (length line)) [
  | inl long ↦
      let same : length (head_of line) ≡ 4097 = length-take-le 4097 line (omega (arith, long)) in
      let cut : nat_lt 4096 (length (head_of line)) ≡ true = lt-ltb 4096 (length (head_of line)) (omega (arith, same)) in
      ap (λ b. cond b None (wanted study s.place (length s.earlier + 1) (words_of (head_of line)))) cut
      ∙ sym (ap (λ b. cond b None (wanted study s.place (length s.earlier + 1) (words_of line))) (lt-ltb 4096 (length line) long))
  | inr short ↦ ap (read_line study s) (take_all 4097 line (omega (arith, short)))
]

head_judge : (study : Question) (lines : List (List ℕ)) (line : List ℕ) → judge study (lines ++ head_of line ∷ []) ≡ judge study (lines ++ line ∷ [])
head_judge study lines line = same_last (read_line study) (fault_of study) Form (advance study) 1 start lines (head_of line) line (λ s. head_read study s line)

pub same_length : (lines : List (List ℕ)) (x y : List ℕ) → length (lines ++ x ∷ []) ≡ length (lines ++ y ∷ [])
same_length [] x y = refl
same_length (l ∷ lines) x y = ap suc (same_length lines x y)

-- a checker that was given the front of a line stands for the line
pub head_stands : (study : Question) (p : Progress) (lines : List (List ℕ)) (line : List ℕ) → StandsFor study p (lines ++ head_of line ∷ []) → StandsFor study p (lines ++ line ∷ [])
head_stands study p lines line h = (h.0 ∙ same_length lines (head_of line) line, subst (StandsAt study p) (head_judge study lines line) h.1)

-- ---- a fault stays

-- whatever lines follow a faulty one
pub refused_more : (study : Question) (lines more : List (List ℕ)) (m : ℕ) (word : Refusal) → judge study lines ≡ Refused m word → judge study (lines ++ more) ≡ Refused m word
refused_more study lines more m word e = after_refused (line_fault study) (after study) 1 start lines more m word e

-- ---- the end of a text

-- the end of a text is judged by the front of its last piece
pub head_concludes : (study : Question) (text held : List ℕ) → held ≡ head_of (final (pieces text)) → conclude (length (front (pieces text)) + 1) held (judge study (front (pieces text))) ≡ answer study text
head_concludes study text held e =
    ap (λ n. conclude n held (judge study (front (pieces text)))) (sym (pieces_count text))
    ∙ ap (λ rest. conclude (length (pieces text)) rest (judge study (front (pieces text)))) e
    ∙ by_told (judge study (front (pieces text)))
  where
    by_rest : (n : ℕ) (rest : List ℕ) (p : Place) → at_end n (head_of rest) p ≡ at_end n rest p
    by_rest n [] p = refl
    by_rest n (x ∷ rest) p = refl

    by_told : (told : Told Standing Refusal) → conclude (length (pieces text)) (head_of (final (pieces text))) told ≡ conclude (length (pieces text)) (final (pieces text)) told
    by_told (Good s) = by_rest (length (pieces text)) (final (pieces text)) s.place
    by_told (Refused n word) = refl

-- where a front is held, the text ends in no line end, and no rule is confirmed
pub no_rule_held : (study : Question) (text held : List ℕ) → (length held == 0) ≡ false → held ≡ head_of (final (pieces text)) → None ≡ rule_of (answer study text)
no_rule_held study text held some e = by_told (judge study (front (pieces text))) held some ∙ ap rule_of (head_concludes study text held e)
  where
    by_told : (told : Told Standing Refusal) (rest : List ℕ) → (length rest == 0) ≡ false → None ≡ rule_of (conclude (length (front (pieces text)) + 1) rest told)
    by_told (Refused n word) rest some = refl
    by_told (Good s) [] some = absurd (true≢false some)
    by_told (Good s) (x ∷ rest) some = refl
