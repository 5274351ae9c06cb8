use Rattle.sharp_laws.proofs.FaultLaws.{first_fault}
use Rattle.sharp_laws.proofs.laws.sharp_faults_are_first.Goals as goal

pub returns : goal.returns
returns c = first_fault
