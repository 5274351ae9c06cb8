use Rattle.std.proofs.Common.{◌∙◌, ap, subst, Err}
use Rattle.sharp_report.specs.SharpAnswers.{SharpConcludes}
use Rattle.report_files.proofs.SharpWorthLemmas.{sharp_concludes_ok, sharp_concludes_line}
use Rattle.report_files.proofs.worths.SharpWorth.of.Goals as goal

pub returns-in-Ok-clause-worth : goal.returns-in-Ok-clause-worth
returns-in-Ok-clause-worth c = λ a h. sharp_concludes_ok a (subst (λ r. SharpConcludes a r) c.in-Ok.is h)

pub returns-in-Err-Line-clause-worth : goal.returns-in-Err-Line-clause-worth
returns-in-Err-Line-clause-worth c = λ a h.
    sharp_concludes_line a c.in-Err-Line.line c.in-Err-Line.refusal (subst (λ r. SharpConcludes a r) (c.in-Err-Line.is ∙ ap Err c.in-Err-Line.field-0-is) h)
