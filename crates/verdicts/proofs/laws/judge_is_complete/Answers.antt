use Rattle.verdicts.proofs.ReportLaws.{right_is_confirmed}
use Rattle.verdicts.proofs.laws.judge_is_complete.Goals as goal

pub returns : goal.returns
returns c = right_is_confirmed
