use Rattle.lanes.specs.Lanes.{AreMoved}
use Rattle.lanes.proofs.telling.moved.Given as goal

abbrev pub invariant-loop-k : goal.invariant-loop-k
invariant-loop-k l = AreMoved l.word l.done l.lanes l.yes l.shift l.all
