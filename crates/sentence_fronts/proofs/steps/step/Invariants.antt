use Rattle.std.proofs.Common.{length}
use Rattle.sentence_fronts.proofs.Stacks.{Passes}
use Rattle.sentence_fronts.proofs.steps.step.Given as goal

abbrev pub invariant-loop-top : goal.invariant-loop-top
invariant-loop-top l = Passes l.stack l.kind l.rest

abbrev pub decreases-loop-top : goal.decreases-loop-top
decreases-loop-top l = length l.rest
