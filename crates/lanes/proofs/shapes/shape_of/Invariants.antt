use Rattle.lanes.specs.Lanes.{IsShape}
use Rattle.lanes.proofs.shapes.shape_of.Given as goal

-- the best one so far is a shape
abbrev pub invariant-loop-outer : goal.invariant-loop-outer
invariant-loop-outer g l = IsShape (g.K.OutcomeKind.size l.kind) l.named.sentence l.best
