-- The judge names the first faulty line.
use Rattle.std.proofs.Common.{◌≡◌, ap, ◌∙◌, ℕ, ◌+◌, List, ◌∷◌, length, Some, None, arith, ◌↔◌}
use Rattle.vocab.specs.Study.{Question}
use Rattle.verdicts.specs.declared.refusals.Refusal.{Refusal}
use Rattle.verdicts.specs.declared.refusals.Refusal.TheVariants.{Form}
use Rattle.verdicts.specs.Lines.{Line}
use Rattle.verdicts.specs.Places.{Standing, start}
use Rattle.verdicts.specs.Faults.{fault_of}
use Rattle.verdicts.specs.FirstFault.{Refused}
use Rattle.verdicts.specs.Judge.{advance, read_line, line_fault, after, judge_from, judge}
use Rattle.verdicts.specs.Laws.{IsFirstFault}
use Rattle.verdicts.proofs.FirstFaultLaws.{past as past_line, first_of, first_refused}

module _ (study : Question) where
  -- past a line without a fault
  pub past : (n : ℕ) (s : Standing) (text : List ℕ) (texts : List (List ℕ)) (l : Line) → read_line study s text ≡ Some l → fault_of study s l ≡ None → judge_from study n s (text ∷ texts) ≡ judge_from study (n + 1) (advance study s l) texts
  past = past_line (read_line study) (fault_of study) Form (advance study)

  pub first_fault : (lines : List (List ℕ)) (n : ℕ) (word : Refusal) → (judge study lines ≡ Refused n word) ↔ IsFirstFault study lines n word
  first_fault lines n word = (
    λ e.
        let r = first_of (line_fault study) (after study) 1 start lines n word e in
        let number : n ≡ length r.0 + 1 = omega (arith, r.5) in
        record { before = r.0; line = r.1; more = r.2; standing = r.3; split = r.4; number = number; faultless = r.6; fault = r.7 },
    λ f.
        let number : 1 + length f.before ≡ n = omega (arith, f.number) in
        ap (judge study) f.split
        ∙ first_refused (line_fault study) (after study) 1 start f.standing f.before f.line f.more word f.faultless f.fault
        ∙ ap (λ k. Refused k word) number,
  )
