use Rattle.std.proofs.Common.{◌∙◌, subst}
use Rattle.verdicts.specs.declared.refusals.Refusal.{Refusal}
use Rattle.verdicts.specs.declared.verdicts.Verdict.{Verdict}
use Rattle.verdicts.specs.FirstFault.{Judgement}
use Rattle.verdicts.specs.Judge.{pieces, front}
use Rattle.report.specs.Answers.{Concludes}
use Rattle.report_files.proofs.LineLemmas.{head_concludes}
use Rattle.report_files.proofs.reader.Reader.end.Goals as goal

pub returns : goal.returns
returns g c = rw (← c.self.view_is) (λ text stands.
    subst (λ (a : Judgement Verdict Refusal). Concludes a c.conclude.result)
    (head_concludes c.self.inside.checker.study text c.as_slice.result.now (c.as_slice.ensures.value ∙ stands.1))
    (c.conclude.ensures (front (pieces text)) stands.0))
