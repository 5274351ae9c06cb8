-- The judge that confirms a text is the one that answers it.
use Rattle.std.proofs.Common.{◌≡◌, ◌∙◌, refl, sym, ap, ℕ, ◌<◌, ◌≤◌, ◌⊎◌, inl, inr, Bool, true, false, cond, List, [], ◌∷◌, ◌++◌, length, take, drop, arith}
use Rattle.std.specs.Prelude.{codes, nat_lt, ◌==◌}
use Rattle.std.specs.Str.{bytes_eq}
use Rattle.std.proofs.lemmas.List.{take-take}
use Rattle.std.proofs.lemmas.List.Splits.{length-slice_split}
use Rattle.vocab.specs.Study.{Question, HasFewAxioms}
use Rattle.verdicts.specs.declared.refusals.Refusal.{Refusal}
use Rattle.verdicts.specs.declared.refusals.Refusal.TheVariants.{Form}
use Rattle.verdicts.specs.declared.verdicts.Verdict.{Verdict}
use Rattle.verdicts.specs.FirstFault.{Refused, Judgement, Confirmed, Faulty, TooLong, beyond}
use Rattle.verdicts.specs.Judge.{judge, pieces, front, answer, answer_within}
use Rattle.verdicts.specs.Laws.{IsReportable}
use Rattle.verdicts.specs.Report.{IsReport}
use Rattle.verdicts.proofs.WordLaws.{split_ended}
use Rattle.sharp_verdicts.specs.Judged.{Judged, AsReport, AsSharp, sharp_title, has_sharp_title}
use Rattle.sharp_verdicts.specs.Right.{Pointed}
use Rattle.sharp_verdicts.specs.SharpJudge.{sharp_answer_within}
use Rattle.sharp_verdicts.specs.SharpLines.{sharp_text}
use Rattle.sharp_laws.specs.Laws.{IsSharpText}
use Rattle.sharp_laws.proofs.AnswerLaws.{texts_confirmed}
use Rattle.sharp_laws.proofs.ApartLaws.{no_report, report_given, sharp_given, titled_is}
use Rattle.sharp_laws.proofs.FaultLaws.{within_limit as sharp_within_limit}
use Rattle.sharp_laws.proofs.JudgeLaws.{judge_sound as sharp_judge_sound}
use Rattle.answers.specs.FileLimits.{most_report_bytes}
use Rattle.answers.specs.Check.{judgement, judged, judgement_status, judged_status}
use Rattle.answers.proofs.FitLemmas.{right_judged}

-- the text of a sharp verdict has its title
text_titled : (study : Question) (v : Pointed) → has_sharp_title (sharp_text study v) ≡ true
text_titled study v = refl

-- the judge of reports refuses a text that begins with that title, whatever follows
title_refused : (study : Question) (rest : List ℕ) → judge study (front (pieces (sharp_title ++ rest))) ≡ Refused 1 Form
title_refused study rest =
    ap (λ ps. judge study (front ps)) (split_ended 10 (codes "bench sharp 1" ∷ []) rest refl)
    ∙ by_rest (pieces rest) (let some : 0 < length (pieces rest) = omega (arith, length-slice_split (λ b. b == 10) rest) in some)
  where
    by_rest : (ps : List (List ℕ)) → 0 < length ps → judge study (front (codes "bench sharp 1" ∷ ps)) ≡ Refused 1 Form
    by_rest [] h = absurd (omega (arith, h))
    by_rest (p ∷ ps) h = refl

-- so it does wherever so much of a text is read
titled_within : (limit : ℕ) (study : Question) (text : List ℕ) → 14 ≤ limit → has_sharp_title text ≡ true → answer_within limit study text ≡ Faulty 1 Form
titled_within limit study text fits e = by (nat_lt limit (length text))
  where
    begins : has_sharp_title (take limit text) ≡ true
    begins = ap (λ start. bytes_eq start sharp_title) (take-take 14 limit text fits) ∙ e

    by : (long : Bool) → cond long (beyond (judge study (front (pieces (take limit text))))) (answer study text) ≡ Faulty 1 Form
    by true =
        ap (λ read. beyond (judge study (front (pieces read)))) (titled_is (take limit text) begins)
        ∙ ap beyond (title_refused study (drop (length sharp_title) (take limit text)))
    by false = no_report study text (drop (length sharp_title) text) (titled_is text e)

module _ (study : Question) (text : List ℕ) where
  -- a text with that title is no report
  pub titled_is_faulty : has_sharp_title text ≡ true → judgement study text ≡ Faulty 1 Form
  titled_is_faulty e = titled_within most_report_bytes study text (omega arith) e

  -- a report that its judge confirms is judged as one
  report_judged : (verdict : Verdict) → judgement study text ≡ Confirmed verdict → judged study text ≡ AsReport (Confirmed verdict)
  report_judged verdict e = by (has_sharp_title text) refl
    where
      by : (b : Bool) → has_sharp_title text ≡ b → cond b (AsSharp (sharp_answer_within most_report_bytes study text)) (AsReport (judgement study text)) ≡ AsReport (Confirmed verdict)
      by true h = let no : Faulty 1 Form ≡ Confirmed verdict = sym (titled_is_faulty h) ∙ e in absurd (cc)
      by false h = ap AsReport e

  -- a sharp text that its judge confirms is judged as one
  sharp_judged : (v : Pointed) → sharp_answer_within most_report_bytes study text ≡ Confirmed v → judged study text ≡ AsSharp (Confirmed v)
  sharp_judged v e =
      let is = (sharp_judge_sound study text v ((sharp_within_limit most_report_bytes study text v).0 e).1).is in
      let titled : has_sharp_title text ≡ true = ap has_sharp_title is ∙ text_titled study v in
      ap (λ (b : Bool). cond b (AsSharp (sharp_answer_within most_report_bytes study text)) (AsReport (judgement study text))) titled ∙ ap AsSharp e

  -- ---- texts of what is right

  pub report_checked : (verdict : Verdict) → IsReportable study → HasFewAxioms study → IsReport study verdict text → length text ≤ most_report_bytes
      → judged study text ≡ AsReport (Confirmed verdict)
  report_checked verdict whole few is fits = report_judged verdict (right_judged study text verdict whole few is fits)

  pub sharp_checked : (v : Pointed) → IsReportable study → HasFewAxioms study → IsSharpText study v text → length text ≤ most_report_bytes
      → judged study text ≡ AsSharp (Confirmed v)
  sharp_checked v whole few is fits = sharp_judged v ((texts_confirmed most_report_bytes study whole few (omega arith) text v).1 (fits, is))

  -- ---- what is confirmed

  pub report_answered : (a : Judgement Verdict Refusal) → judged study text ≡ AsReport a → judgement study text ≡ a
  report_answered a e = report_given (has_sharp_title text) (sharp_answer_within most_report_bytes study text) (judgement study text) a e

  pub sharp_answered : (v : Pointed) → judged study text ≡ AsSharp (Confirmed v) → IsSharpText study v text × (length text ≤ most_report_bytes)
  sharp_answered v e =
      let is = sharp_given (has_sharp_title text) (sharp_answer_within most_report_bytes study text) (Confirmed v) (judgement study text) e in
      let within = (sharp_within_limit most_report_bytes study text v).0 is in
      (sharp_judge_sound study text v within.1, within.0)

-- status 0 says that the answer is a confirmation
pub zero_confirms : {V R : Type 0} (a : Judgement V R) → judgement_status a ≡ 0 → (v : V) × (a ≡ Confirmed v)
zero_confirms (Confirmed v) e = (v, refl)
zero_confirms (Faulty line word) e = absurd (omega (arith, e))
zero_confirms TooLong e = absurd (omega (arith, e))

pub zero_judged : (a : Judged) → judged_status a ≡ 0 → ((verdict : Verdict) × (a ≡ AsReport (Confirmed verdict))) ⊎ ((v : Pointed) × (a ≡ AsSharp (Confirmed v)))
zero_judged (AsReport a) e = let c = zero_confirms a e in inl (c.0, ap AsReport c.1)
zero_judged (AsSharp a) e = let c = zero_confirms a e in inr (c.0, ap AsSharp c.1)
