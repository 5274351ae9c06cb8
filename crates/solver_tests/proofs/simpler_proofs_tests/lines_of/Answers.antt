use Rattle.std.proofs.Common.{List, sym, subst}
use Rattle.lists.proofs.TestLaws.{all_snoc}
use Rattle.cnf.specs.Fresh.{AreOver, added_by, is_over}
use Rattle.cnf.specs.declared.derivations.Line.{Line}
use Rattle.solver_tests.proofs.simpler_proofs_tests.lines_of.Goals as goal

pub loop-row-preserved : goal.loop-row-preserved
loop-row-preserved c =
    subst (λ (ls : List Line). AreOver 12 ls) (sym c.in_ok-push.ensures.ok)
    (all_snoc (λ (line : Line). is_over 12 (added_by line.step)) c.loop-row.lines _ c.loop-row.invariant c.in_ok-clause.ensures)
