use Rattle.std.proofs.Common.{◌-◌, ◌≤◌}
use Rattle.lanes.specs.Lanes.{IsPremiseToldFrom, IsToldFrom}
use Rattle.lanes.proofs.telling.told_sides.Given as goal

-- what is told so far
abbrev pub invariant-loop-done : goal.invariant-loop-done
invariant-loop-done g l = record {
  within : l.done ≤ 64;
  told : IsToldFrom (g.K.OutcomeKind.size l.kind) l.named.sentence l.number l.all;
  premise : IsPremiseToldFrom (g.K.OutcomeKind.size l.kind) l.named.sentence l.number l.premise;
}

abbrev pub decreases-loop-done : goal.decreases-loop-done
decreases-loop-done g l = 64 - l.done
