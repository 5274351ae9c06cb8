use Rattle.std.proofs.Common.{◌++◌, ◌∷◌, [], ap}
use Rattle.cnf.specs.Signed.{Signed}
use Rattle.clause_text.specs.Dimacs.{signed_text}
use Rattle.texts.proofs.LoopLemmas.{loop_stops, loop_goes_on}
use Rattle.clause_text.proofs.literals.LiteralsText.pour.Goals as goal

pub returns-in_err-pour : goal.returns-in_err-pour
returns-in_err-pour g c = loop_stops (λ (l : Signed). signed_text l ++ 32 ∷ []) c.args.self.now.0.now c.loop-lit.lit-index c.lit-item.result _ _ _ _ _ _ c.loop-lit.invariant _ _ _ c.in_err-pour.field-0.0 c.from_residual.result _ c.loop-lit-test.true (ap (λ (l : Signed). signed_text l ++ 32 ∷ []) c.lit-item.is) c.from_residual.ensures.0 c.in_err-pour.ensures

pub loop-lit-preserved : goal.loop-lit-preserved
loop-lit-preserved g c = loop_goes_on (λ (l : Signed). signed_text l ++ 32 ∷ []) c.args.self.now.0.now c.loop-lit.lit-index c.lit-item.result _ _ _ _ _ _ c.loop-lit.invariant _ _ _ c.in_ok-pour.field-0 _ c.loop-lit-test.true (ap (λ (l : Signed). signed_text l ++ 32 ∷ []) c.lit-item.is) c.in_ok-pour.ensures
