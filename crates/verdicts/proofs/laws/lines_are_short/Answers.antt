use Rattle.verdicts.proofs.ReportLaws.{right_lines_short}
use Rattle.verdicts.proofs.laws.lines_are_short.Goals as goal

pub returns : goal.returns
returns c = right_lines_short
