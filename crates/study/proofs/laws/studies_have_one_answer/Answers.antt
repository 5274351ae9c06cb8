use Rattle.study.proofs.OneAnswer.{studies_once}
use Rattle.study.proofs.laws.studies_have_one_answer.Goals as goal

pub returns : goal.returns
returns c = studies_once
