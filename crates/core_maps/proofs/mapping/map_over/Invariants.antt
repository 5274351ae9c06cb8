use Rattle.std.proofs.Common.{length}
use Rattle.axiom_sets.specs.Counts.{left_to_ask}
use Rattle.axiom_sets.specs.Maps.{IsTidy}
use Rattle.core_maps.specs.CoreMaps.{IsRight}
use Rattle.core_maps.proofs.mapping.map_over.Given as goal

-- the map so far is tidy and right
abbrev pub invariant-sets : goal.invariant-sets
invariant-sets g l = record { tidy : IsTidy (length l.whole.study.now.axioms) l.sets; right : IsRight l.whole.study.now l.sets }

abbrev pub decreases-sets : goal.decreases-sets
decreases-sets g l = left_to_ask (length l.whole.study.now.axioms) l.sets
