use Rattle.std.specs.Prelude.{IsTrue}
use Rattle.cnf.specs.Fresh.{is_over}
use Rattle.solver_tests.proofs.simpler_proofs_tests.clause_of.Given as goal

abbrev pub invariant-loop-number : goal.invariant-loop-number
invariant-loop-number l = IsTrue (is_over 12 l.clause)
