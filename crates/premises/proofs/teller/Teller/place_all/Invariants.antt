use Rattle.std.proofs.Common.{◌≡◌, take}
use Rattle.premises.specs.SoFar.{bare_steps, unforced}
use Rattle.premises.proofs.teller.Teller.place_all.Given as goal

-- the steps so far are told, but for those whose facts are forced
abbrev pub invariant-loop-step : goal.invariant-loop-step
invariant-loop-step g l = bare_steps l.placed ≡ unforced l.self.forced.now.literals (take l.step-index l.steps)
