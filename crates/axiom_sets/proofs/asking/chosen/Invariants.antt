use Rattle.std.proofs.Common.{◌≡◌}
use Rattle.cnf.specs.Assignment.{value_of}
use Rattle.axiom_sets.specs.Next.{chosen}
use Rattle.axiom_sets.proofs.asking.chosen.Given as goal

-- the places so far that are not left out
abbrev pub invariant-loop-place : goal.invariant-loop-place
invariant-loop-place l = l.set ≡ chosen (value_of l.bits) l.place
