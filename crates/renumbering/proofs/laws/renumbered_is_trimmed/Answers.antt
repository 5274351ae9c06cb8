use Rattle.renumbering.proofs.RenumberedLaws.{trimmed_renumbered}
use Rattle.renumbering.proofs.laws.renumbered_is_trimmed.Goals as goal

pub returns : goal.returns
returns c = trimmed_renumbered
