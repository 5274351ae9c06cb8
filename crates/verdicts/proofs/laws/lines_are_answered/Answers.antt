use Rattle.verdicts.specs.Judge.{judge, conclude}
use Rattle.verdicts.proofs.WholeTextLaws.{lines_answered}
use Rattle.verdicts.proofs.laws.lines_are_answered.Goals as goal

pub returns : goal.returns
returns c study = lines_answered conclude (judge study)
