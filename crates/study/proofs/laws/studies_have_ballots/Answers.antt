use Rattle.study.proofs.StudyBallots.{ballots_had}
use Rattle.study.proofs.laws.studies_have_ballots.Goals as goal

pub returns : goal.returns
returns c = ballots_had
