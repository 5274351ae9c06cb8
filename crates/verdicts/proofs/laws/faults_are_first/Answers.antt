use Rattle.verdicts.proofs.FaultLaws.{first_fault}
use Rattle.verdicts.proofs.laws.faults_are_first.Goals as goal

pub returns : goal.returns
returns c = first_fault
