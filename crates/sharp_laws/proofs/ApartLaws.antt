-- No text is confirmed both as a report and as a sharp text, and the judge of reports refuses the first line of a sharp text.
use Rattle.std.proofs.Common.{◌≡◌, refl, sym, ap, ◌∙◌, ℕ, ◌<◌, Bool, true, false, cond, List, [], ◌∷◌, ◌++◌, length, get_or, arith, take-append-drop, drop}
use Rattle.std.specs.Prelude.{codes, ◌==◌}
use Rattle.std.proofs.lemmas.List.Splits.{length-slice_split}
use Rattle.vocab.specs.Study.{Question}
use Rattle.verdicts.specs.declared.refusals.Refusal.{Refusal}
use Rattle.verdicts.specs.declared.refusals.Refusal.TheVariants.{Form}
use Rattle.verdicts.specs.declared.verdicts.Verdict.{Verdict}
use Rattle.verdicts.specs.FirstFault.{Judgement, Confirmed, Faulty}
use Rattle.verdicts.specs.Judge.{judge, pieces, front, final, conclude, answer}
use Rattle.verdicts.proofs.JudgeLaws.{judge_sound as report_sound}
use Rattle.verdicts.proofs.WordLaws.{split_ended}
use Rattle.sharp_verdicts.specs.declared.refusals.SharpRefusal.{SharpRefusal}
use Rattle.sharp_verdicts.specs.Judged.{AsReport, AsSharp, has_sharp_title, sharp_title}
use Rattle.sharp_verdicts.specs.Right.{Pointed}
use Rattle.sharp_verdicts.specs.SharpJudge.{sharp_answer}
use Rattle.sharp_laws.proofs.JudgeLaws.{judge_sound}
use Rattle.std.proofs.lemmas.Slice.Eq.{bytes_eq-Decides}

-- the first line of a sharp text
abbrev title : List ℕ
title = codes "bench sharp 1"

-- what has the title of a sharp text goes on after it
pub titled_is : (text : List ℕ) → has_sharp_title text ≡ true → text ≡ sharp_title ++ drop (length sharp_title) text
titled_is text e =
    sym (take-append-drop (length sharp_title) text) ∙ ap (λ start. start ++ drop (length sharp_title) text) ((bytes_eq-Decides _ sharp_title).0 e)

-- the judge of reports refuses its first line
pub no_report : (study : Question) (text rest : List ℕ) → text ≡ codes "bench sharp 1" ++ 10 ∷ rest → answer study text ≡ Faulty 1 Form
no_report study text rest e =
    ap (λ ps. conclude (length ps) (final ps) (judge study (front ps))) (ap pieces e ∙ split_ended 10 (title ∷ []) rest refl)
    ∙ by_rest (pieces rest) (let some : 0 < length (pieces rest) = omega (arith, length-slice_split (λ b. b == 10) rest) in some)
  where
    by_rest : (ps : List (List ℕ)) → 0 < length ps → conclude (length (title ∷ ps)) (final (title ∷ ps)) (judge study (front (title ∷ ps))) ≡ Faulty 1 Form
    by_rest [] h = absurd (omega (arith, h))
    by_rest (p ∷ ps) h = refl

-- the seventh byte of a report is `r`, and that of a sharp text is `s`
pub told_apart : (study : Question) (text : List ℕ) (verdict : Verdict) (v : Pointed) → answer study text ≡ Confirmed verdict → sharp_answer study text ≡ Confirmed v → ⊥
told_apart study text verdict v a b =
    let report = report_sound study text verdict a in
    let sharp = judge_sound study text v b in
    let differ : 114 ≡ 115 = ap (λ (t : List ℕ). get_or t 6 0) (sym report.is ∙ sharp.is) in
    absurd (omega (arith, differ))

-- ---- which of two answers was given

pub report_given : (b : Bool) (s : Judgement Pointed SharpRefusal) (r a : Judgement Verdict Refusal) → cond b (AsSharp s) (AsReport r) ≡ AsReport a → r ≡ a
report_given true s r a e = absurd (cc)
report_given false s r a e = cc

pub sharp_given : (b : Bool) (s a : Judgement Pointed SharpRefusal) (r : Judgement Verdict Refusal) → cond b (AsSharp s) (AsReport r) ≡ AsSharp a → s ≡ a
sharp_given true s a r e = cc
sharp_given false s a r e = absurd (cc)
