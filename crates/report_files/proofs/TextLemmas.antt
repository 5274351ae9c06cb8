-- What is confirmed of a text is right.
use Rattle.std.proofs.Common.{◌≡◌, ℕ, ◌<◌, ◌^◌, ◌⊎◌, inl, inr, List, length, Result, Ok, Err, arith}
use Rattle.vocab.specs.Study.{Question, HasFewAxioms}
use Rattle.verdicts.specs.declared.verdicts.Confirmed.{Confirmed}
use Rattle.verdicts.specs.Judge.{answer}
use Rattle.verdicts.specs.Report.{lemma_count}
use Rattle.verdicts.proofs.JudgeLaws.{judge_sound}
use Rattle.verdicts.proofs.LineEndLaws.{lemmas_fit}
use Rattle.verdicts.proofs.ReportLaws.{right_is_confirmed}
use Rattle.report.specs.declared.faults.ReportFault.{ReportFault}
use Rattle.report.specs.declared.faults.ReportFault.TheVariants.{NoMemory}
use Rattle.report.specs.Answers.{Concludes, ConfirmsRight, ConfirmsAll}
use Rattle.report.proofs.AnswerLemmas.{concluded, concludes_claim}

module _ (study : Question) (text : List ℕ) where
  pub text_right : (result : Result Confirmed ReportFault) → (result ≡ Err NoMemory) ⊎ Concludes (answer study text) result → ConfirmsRight study text result
  text_right (Ok c) (inl e) = absurd (cc)
  text_right (Ok c) (inr h) =
      let a = concluded (answer study text) c h in
      record { verdict = a.0; report = judge_sound study text a.0 a.1; claims = a.2 }
  text_right (Err fault) h = tt

  pub text_all : HasFewAxioms study → (result : Result Confirmed ReportFault) → length text < 4294967294
      → (result ≡ Err NoMemory) ⊎ Concludes (answer study text) result
      → (result ≡ Err NoMemory) ⊎ ConfirmsAll study text result
  text_all listed result few (inl e) = inl e
  text_all listed result few (inr h) = inr (λ is claim c.
      let less : lemma_count c.verdict < 2 ^ 64 = omega (arith, lemmas_fit study text c.verdict c.report, few) in
      concludes_claim (answer study text) c.verdict claim result (right_is_confirmed study is listed text c.verdict c.report less) c.claims h)
