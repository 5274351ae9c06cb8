use Rattle.sharp_laws.proofs.ApartLaws.{no_report}
use Rattle.sharp_laws.proofs.laws.sharp_texts_are_no_reports.Goals as goal

pub returns : goal.returns
returns c = no_report
