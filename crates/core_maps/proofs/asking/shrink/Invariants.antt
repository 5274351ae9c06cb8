use Rattle.std.proofs.Common.{◌≡◌, ◌-◌, true, false, length}
use Rattle.axiom_sets.specs.Sets.{is_set, is_within, has_whole}
use Rattle.core_maps.specs.CoreMaps.{IsOpen}
use Rattle.core_maps.proofs.asking.shrink.Given as goal

-- the part is one of the set, over which a search spent the limit
abbrev pub invariant-parts : goal.invariant-parts
invariant-parts g l = record {
  set : is_set (length l.whole.study.now.axioms) l.part ≡ true;
  within : is_within l.part l.fn.set ≡ true;
  unknown : has_whole l.sets.possible l.part ≡ false;
  open_part : IsOpen l.whole.study.now l.part;
}

abbrev pub decreases-parts : goal.decreases-parts
decreases-parts g l = length l.part - l.at
