use Rattle.std.proofs.Common.{◌≡◌, ◌∙◌, ◌∷◌, [], true, List, refl, sym, subst}
use Rattle.std.specs.Prelude.{nat_le, ◌&&◌}
use Rattle.std.proofs.lemmas.Bool.{and_from, le-leb}
use Rattle.std.proofs.lemmas.List.Folds.{list_all-append}
use Rattle.cnf.specs.Fresh.{is_over}
use Rattle.cnf.specs.Signed.{Signed}
use Rattle.solver_tests.proofs.simpler_proofs_tests.clause_of.Goals as goal

pub loop-number-preserved : goal.loop-number-preserved
loop-number-preserved c =
    let l : Signed = c.literal.result in
    let over : is_over 12 (l ∷ []) ≡ true = and_from _ _ (and_from _ _ (le-leb 1 l.variable c.literal.ensures.least) (le-leb l.variable 12 c.literal.ensures.most)) refl in
    subst (λ (ls : List Signed). is_over 12 ls ≡ true) (sym c.in_ok-push.ensures.ok)
    (list_all-append (λ (k : Signed). nat_le 1 k.variable && nat_le k.variable 12) c.loop-number.clause (l ∷ []) ∙ and_from _ _ c.loop-number.invariant over)
