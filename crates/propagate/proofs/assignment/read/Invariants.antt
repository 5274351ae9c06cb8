use Rattle.std.proofs.Common.{take}
use Rattle.propagate.specs.Values.{StartsAtOne}
use Rattle.propagate.proofs.assignment.read.Given as goal

abbrev pub invariant-loop-lit : goal.invariant-loop-lit
invariant-loop-lit l = StartsAtOne (take l.lit-index l.clause)
