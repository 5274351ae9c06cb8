use Rattle.answers.proofs.AdoptLaws.{proofs_adopted}
use Rattle.answers.proofs.laws.written_proofs_are_adopted.Goals as goal

pub returns : goal.returns
returns c = proofs_adopted
