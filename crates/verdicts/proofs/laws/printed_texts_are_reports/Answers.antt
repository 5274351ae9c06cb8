use Rattle.verdicts.proofs.ReportLaws.{printed_are_reports}
use Rattle.verdicts.proofs.laws.printed_texts_are_reports.Goals as goal

pub returns : goal.returns
returns c = printed_are_reports
