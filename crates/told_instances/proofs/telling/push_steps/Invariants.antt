use Rattle.std.proofs.Common.{◌≡◌, ◌++◌, map, take}
use Rattle.told_instances.specs.Told.{codes_by}
use Rattle.told_instances.proofs.telling.push_steps.Given as goal

abbrev pub invariant-loop-step : goal.invariant-loop-step
invariant-loop-step l = l.codes.items ≡ l.initial.codes.items ++ codes_by l.study (map (λ step. step.reason) (take l.step-index l.steps))
