use Rattle.answers.proofs.WrittenReports.{reports_confirmed}
use Rattle.answers.proofs.laws.written_reports_are_confirmed.Goals as goal

pub returns : goal.returns
returns c = reports_confirmed
