use Rattle.verdicts.proofs.ReportLaws.{texts_distinct}
use Rattle.verdicts.proofs.laws.texts_are_distinct.Goals as goal

pub returns : goal.returns
returns c = texts_distinct
