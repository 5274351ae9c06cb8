-- The judge names the first faulty line.
use Rattle.std.proofs.Common.{◌≡◌, ap, ◌∙◌, ℕ, ◌+◌, ◌≤◌, List, ◌∷◌, length, Some, None, arith, ◌↔◌}
use Rattle.vocab.specs.Study.{Question}
use Rattle.verdicts.specs.declared.refusals.Refusal.TheVariants.{Form}
use Rattle.verdicts.specs.FirstFault.{Refused, Confirmed}
use Rattle.verdicts.proofs.FirstFaultLaws.{past as past_line, first_of, first_refused}
use Rattle.verdicts.proofs.WholeTextLaws.{confirmed_within}
use Rattle.sharp_verdicts.specs.declared.refusals.SharpRefusal.{SharpRefusal}
use Rattle.sharp_verdicts.specs.declared.refusals.SharpRefusal.TheVariants.{Report}
use Rattle.sharp_verdicts.specs.Right.{Pointed}
use Rattle.sharp_verdicts.specs.SharpLines.{SharpLine}
use Rattle.sharp_verdicts.specs.SharpPlaces.{SharpStanding, sharp_start, read_sharp_line}
use Rattle.sharp_verdicts.specs.SharpFaults.{sharp_fault}
use Rattle.sharp_verdicts.specs.SharpJudge.{advance_sharp, sharp_line_fault, sharp_after, sharp_judge_from, sharp_judge, sharp_conclude, sharp_answer, sharp_answer_within}
use Rattle.sharp_laws.specs.Laws.{IsFirstSharpFault}

module _ (study : Question) where
  -- past a line without a fault
  pub past : (n : ℕ) (s : SharpStanding) (text : List ℕ) (texts : List (List ℕ)) (l : SharpLine) → read_sharp_line study s text ≡ Some l → sharp_fault study s l ≡ None
      → sharp_judge_from study n s (text ∷ texts) ≡ sharp_judge_from study (n + 1) (advance_sharp study s l) texts
  past = past_line (read_sharp_line study) (sharp_fault study) (Report Form) (advance_sharp study)

  pub first_fault : (lines : List (List ℕ)) (n : ℕ) (word : SharpRefusal) → (sharp_judge study lines ≡ Refused n word) ↔ IsFirstSharpFault study lines n word
  first_fault lines n word = (
    λ e.
        let r = first_of (sharp_line_fault study) (sharp_after study) 1 sharp_start lines n word e in
        let number : n ≡ length r.0 + 1 = omega (arith, r.5) in
        record { before = r.0; line = r.1; more = r.2; standing = r.3; split = r.4; number = number; faultless = r.6; fault = r.7 },
    λ f.
        let number : 1 + length f.before ≡ n = omega (arith, f.number) in
        ap (sharp_judge study) f.split
        ∙ first_refused (sharp_line_fault study) (sharp_after study) 1 sharp_start f.standing f.before f.line f.more word f.faultless f.fault
        ∙ ap (λ k. Refused k word) number,
  )

pub within_limit : (limit : ℕ) (study : Question) (text : List ℕ) (v : Pointed) → (sharp_answer_within limit study text ≡ Confirmed v) ↔ ((length text ≤ limit) × (sharp_answer study text ≡ Confirmed v))
within_limit limit study = confirmed_within (sharp_conclude study) (sharp_judge study) limit
