use Rattle.sharp_laws.proofs.ApartLaws.{told_apart}
use Rattle.sharp_laws.proofs.laws.reports_are_told_apart.Goals as goal

pub returns : goal.returns
returns c = told_apart
