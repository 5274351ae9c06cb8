-- The report of a right verdict, within its limit, is confirmed.
use Rattle.std.proofs.Common.{◌≡◌, ℕ, ◌<◌, ◌≤◌, ◌^◌, List, length, arith}
use Rattle.vocab.specs.Study.{Question, HasFewAxioms}
use Rattle.verdicts.specs.declared.verdicts.Verdict.{Verdict}
use Rattle.verdicts.specs.Report.{lemma_count, IsReport}
use Rattle.verdicts.specs.FirstFault.{Confirmed}
use Rattle.verdicts.specs.Laws.{IsReportable}
use Rattle.verdicts.proofs.ClaimLaws.{within_limit}
use Rattle.verdicts.proofs.LineEndLaws.{lemmas_fit}
use Rattle.verdicts.proofs.ReportLaws.{right_is_confirmed}
use Rattle.answers.specs.FileLimits.{most_report_bytes}
use Rattle.answers.specs.Check.{judgement}

module _ (study : Question) (text : List ℕ) where
  -- the report of a right verdict, within its limit, is confirmed
  pub right_judged : (verdict : Verdict) → IsReportable study → HasFewAxioms study → IsReport study verdict text → length text ≤ most_report_bytes → judgement study text ≡ Confirmed verdict
  right_judged verdict whole listed is fits =
      let few : lemma_count verdict < 2 ^ 64 = omega (arith, lemmas_fit study text verdict is, fits) in
      (within_limit most_report_bytes study text verdict).1 (fits, right_is_confirmed study whole listed text verdict is few)
