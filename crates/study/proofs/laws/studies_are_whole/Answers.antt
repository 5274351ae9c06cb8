use Rattle.study.proofs.WholeStudies.{studies_whole}
use Rattle.study.proofs.laws.studies_are_whole.Goals as goal

pub returns : goal.returns
returns c = studies_whole
