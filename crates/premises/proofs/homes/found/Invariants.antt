use Rattle.std.proofs.Common.{◌≤◌, length}
use Rattle.premises.specs.Uses.{AreHomesFrom}
use Rattle.premises.proofs.homes.found.Given as goal

-- from this place on each lemma stands where it is to stand
abbrev pub invariant-loop-place : goal.invariant-loop-place
invariant-loop-place l = (l.place ≤ length l.uses) × AreHomesFrom l.uses l.homes.items l.place
