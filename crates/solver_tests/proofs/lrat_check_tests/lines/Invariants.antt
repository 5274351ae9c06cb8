use Rattle.std.specs.Prelude.{IsTrue}
use Rattle.std.specs.List.{list_all}
use Rattle.lrat_check.specs.Ranges.{has_next}
use Rattle.solver_tests.proofs.lrat_check_tests.lines.Given as goal

abbrev pub invariant-loop-row : goal.invariant-loop-row
invariant-loop-row l = IsTrue (list_all has_next l.lines)
