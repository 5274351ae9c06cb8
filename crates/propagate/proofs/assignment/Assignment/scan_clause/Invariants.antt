use Rattle.propagate.specs.TrailState.{known}
use Rattle.propagate.proofs.ScanLemmas.{Left}
use Rattle.propagate.proofs.assignment.Assignment.scan_clause.Given as goal

abbrev pub invariant-loop-lit : goal.invariant-loop-lit
invariant-loop-lit l = Left (known l.self) l.clause l.lit-index l.left
