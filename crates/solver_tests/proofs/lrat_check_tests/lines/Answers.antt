use Rattle.std.proofs.Common.{◌≡◌, true, List, [], ◌∷◌, sym, subst, ◌∙◌, refl}
use Rattle.std.specs.List.{list_all}
use Rattle.std.proofs.lemmas.Bool.{and_from}
use Rattle.std.proofs.lemmas.List.Folds.{list_all-append}
use Rattle.cnf.specs.declared.derivations.Line.{Line}
use Rattle.lrat_check.specs.Ranges.{has_next}
use Rattle.solver_tests.proofs.lrat_check_tests.lines.Goals as goal

pub loop-row-preserved : goal.loop-row-preserved
loop-row-preserved c =
    subst (λ (ls : List Line). list_all has_next ls ≡ true) (sym c.in_ok-push.ensures.ok)
    (list_all-append has_next c.loop-row.lines (c.in_ok-line.line ∷ []) ∙ and_from _ _ c.loop-row.invariant (and_from _ _ c.in_ok-line.ensures refl))
