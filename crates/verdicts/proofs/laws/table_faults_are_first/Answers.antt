use Rattle.verdicts.proofs.TableLaws.{table_faults}
use Rattle.verdicts.proofs.laws.table_faults_are_first.Goals as goal

pub returns : goal.returns
returns c = table_faults
