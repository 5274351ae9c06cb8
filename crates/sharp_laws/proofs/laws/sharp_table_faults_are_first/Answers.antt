use Rattle.sharp_laws.proofs.TableLaws.{table_faults}
use Rattle.sharp_laws.proofs.laws.sharp_table_faults_are_first.Goals as goal

pub returns : goal.returns
returns c = table_faults
