use Rattle.verdicts.proofs.ReportLaws.{cut_is_form}
use Rattle.verdicts.proofs.laws.cut_reports_are_form.Goals as goal

pub returns : goal.returns
returns c = cut_is_form
