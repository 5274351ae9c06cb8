use Rattle.std.proofs.Common.{◌≡◌, take}
use Rattle.premises.specs.SoFar.{bare_steps}
use Rattle.premises.proofs.forced.bare_steps.Given as goal

-- the steps so far
abbrev pub invariant-loop-placed : goal.invariant-loop-placed
invariant-loop-placed l = l.bare ≡ bare_steps (take l.placed-index l.steps)
