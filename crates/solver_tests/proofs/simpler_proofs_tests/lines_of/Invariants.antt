use Rattle.cnf.specs.Fresh.{AreOver}
use Rattle.solver_tests.proofs.simpler_proofs_tests.lines_of.Given as goal

abbrev pub invariant-loop-row : goal.invariant-loop-row
invariant-loop-row l = AreOver 12 l.lines
