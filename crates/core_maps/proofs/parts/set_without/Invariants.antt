use Rattle.std.proofs.Common.{◌≡◌, take}
use Rattle.core_reduce.specs.Reducing.{others}
use Rattle.core_maps.proofs.parts.set_without.Given as goal

abbrev pub invariant-loop-place : goal.invariant-loop-place
invariant-loop-place l = l.rest ≡ others l.k (take l.place-index l.set)
