use Rattle.std.proofs.Common.{◌∙◌, ap, subst, Err}
use Rattle.report.specs.Answers.{Concludes}
use Rattle.report_files.proofs.WorthLemmas.{concludes_ok, concludes_line}
use Rattle.report_files.proofs.worths.Worth.of.Goals as goal

pub returns-in-Ok-clause-worth : goal.returns-in-Ok-clause-worth
returns-in-Ok-clause-worth c = λ a h. concludes_ok a c.in-Ok.claim (subst (λ r. Concludes a r) c.in-Ok.is h)

pub returns-in-Err-Line-clause-worth : goal.returns-in-Err-Line-clause-worth
returns-in-Err-Line-clause-worth c = λ a h.
    concludes_line a c.in-Err-Line.line c.in-Err-Line.refusal (subst (λ r. Concludes a r) (c.in-Err-Line.is ∙ ap Err c.in-Err-Line.field-0-is) h)
