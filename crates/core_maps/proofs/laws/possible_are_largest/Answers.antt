use Rattle.core_maps.proofs.MapLaws.{largest}
use Rattle.core_maps.proofs.laws.possible_are_largest.Goals as goal

pub returns : goal.returns
returns c = largest
