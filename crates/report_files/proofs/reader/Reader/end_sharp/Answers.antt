use Rattle.std.proofs.Common.{◌∙◌, subst}
use Rattle.verdicts.specs.FirstFault.{Judgement}
use Rattle.verdicts.specs.Judge.{pieces, front}
use Rattle.sharp_verdicts.specs.declared.refusals.SharpRefusal.{SharpRefusal}
use Rattle.sharp_verdicts.specs.Right.{Pointed}
use Rattle.sharp_report.specs.SharpAnswers.{SharpConcludes}
use Rattle.report_files.proofs.SharpLineLemmas.{head_sharp_concludes}
use Rattle.report_files.proofs.reader.Reader.end_sharp.Goals as goal

pub returns : goal.returns
returns g c = rw (← c.self.view_is) (λ text admits stands.
    subst (λ (a : Judgement Pointed SharpRefusal). SharpConcludes a c.conclude_sharp.result)
    (head_sharp_concludes c.self.inside.checker.study text c.as_slice.result.now (c.as_slice.ensures.value ∙ stands.1))
    (c.conclude_sharp.ensures (front (pieces text)) admits stands.0))
