use Rattle.std.proofs.Common.{◌-◌, ◌≤◌}
use Rattle.grounding.specs.Pieces.{AreNarrow}
use Rattle.grounding.proofs.measuring.measure_rounds.Given as goal

-- the instances so far are narrow
abbrev pub invariant-loop-from : goal.invariant-loop-from
invariant-loop-from g l = record {
  within : l.from ≤ l.planned.count;
  narrow : AreNarrow (g.K.OutcomeKind.size l.planned.kind.now) l.planned.named.now.sentence 0 l.from;
}

abbrev pub decreases-loop-from : goal.decreases-loop-from
decreases-loop-from g l = l.planned.count - l.from
