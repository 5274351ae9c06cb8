use Rattle.core_maps.proofs.MapLaws.{decided}
use Rattle.core_maps.proofs.laws.maps_decide.Goals as goal

pub returns : goal.returns
returns c = decided
