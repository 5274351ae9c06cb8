use Rattle.std.proofs.Common.{ℕ, ◌++◌, ◌∷◌, [], refl}
use Rattle.verdicts.specs.Numbers.{number_text}
use Rattle.texts.proofs.LoopLemmas.{loop_stops, loop_goes_on}
use Rattle.clause_text.proofs.lrat_writing.HintsText.pour.Goals as goal

pub returns-in_err-pour : goal.returns-in_err-pour
returns-in_err-pour g c = loop_stops (λ (id : ℕ). number_text id ++ 32 ∷ []) c.args.self.now.0.now c.loop-id.id-index 0 _ _ _ _ _ _ c.loop-id.invariant _ _ _ c.in_err-pour.field-0.0 c.from_residual.result _ c.loop-id-test.true refl c.from_residual.ensures.0 c.in_err-pour.ensures

pub loop-id-preserved : goal.loop-id-preserved
loop-id-preserved g c = loop_goes_on (λ (id : ℕ). number_text id ++ 32 ∷ []) c.args.self.now.0.now c.loop-id.id-index 0 _ _ _ _ _ _ c.loop-id.invariant _ _ _ c.in_ok-pour.field-0 _ c.loop-id-test.true refl c.in_ok-pour.ensures
