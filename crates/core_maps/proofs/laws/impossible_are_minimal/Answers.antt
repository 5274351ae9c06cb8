use Rattle.core_maps.proofs.MapLaws.{minimal}
use Rattle.core_maps.proofs.laws.impossible_are_minimal.Goals as goal

pub returns : goal.returns
returns c = minimal
