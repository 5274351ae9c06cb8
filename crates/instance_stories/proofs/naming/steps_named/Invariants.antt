use Rattle.std.proofs.Common.{◌≡◌, map, take}
use Rattle.instance_stories.specs.Named.{step_named}
use Rattle.instance_stories.proofs.naming.steps_named.Given as goal

abbrev pub invariant-loop-step : goal.invariant-loop-step
invariant-loop-step l = l.named ≡ map (step_named l.instances.study.now l.instances.cited.now) (take l.step-index l.steps)
