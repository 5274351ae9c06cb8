use Rattle.verdicts.proofs.WholeTextLaws.{lines_answered}
use Rattle.sharp_verdicts.specs.SharpJudge.{sharp_judge, sharp_conclude}
use Rattle.sharp_laws.proofs.laws.sharp_lines_are_answered.Goals as goal

pub returns : goal.returns
returns c study = lines_answered (sharp_conclude study) (sharp_judge study)
