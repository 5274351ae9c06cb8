use Rattle.core_maps.proofs.MapLaws.{none_left}
use Rattle.core_maps.proofs.laws.enough_leaves_none.Goals as goal

pub returns : goal.returns
returns c = none_left
