use Rattle.std.proofs.Common.{◌≤◌, ◌-◌}
use Rattle.grounding.specs.Pieces.{IsKeptPart}
use Rattle.grounding.proofs.parts.clauses_of_all.Given as goal

-- the clauses of the instances before a piece are there
abbrev pub invariant-loop-start : goal.invariant-loop-start
invariant-loop-start g l = record {
  rising : l.stretch.from ≤ l.start;
  within : l.start ≤ l.stretch.to;
  kept : IsKeptPart (g.K.OutcomeKind.size l.stretch.numbered.now.kind.now) l.stretch.numbered.now.named.now.sentence l.stretch.numbered.now.base l.stretch.from l.start l.part;
}

abbrev pub decreases-loop-start : goal.decreases-loop-start
decreases-loop-start g l = l.stretch.to - l.start
