use Rattle.answers.proofs.ConfirmedLaws.{proofs_confirmed}
use Rattle.answers.proofs.laws.written_proofs_are_confirmed.Goals as goal

pub returns : goal.returns
returns c = proofs_confirmed
