use Rattle.verdicts.proofs.ReportLaws.{no_confirmed_prefix}
use Rattle.verdicts.proofs.laws.prefixes_are_refused.Goals as goal

pub returns : goal.returns
returns c = no_confirmed_prefix
