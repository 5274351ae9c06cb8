use Rattle.std.proofs.Common.{ap}
use Rattle.cnf.specs.declared.derivations.Line.{Line}
use Rattle.clause_text.specs.Lrat.{step_text}
use Rattle.texts.proofs.LoopLemmas.{loop_stops, loop_goes_on}
use Rattle.clause_text.proofs.lrat_writing.StepsText.pour.Goals as goal

pub returns-in_err-pour : goal.returns-in_err-pour
returns-in_err-pour g c = loop_stops (λ (line : Line). step_text line.step) c.args.self.now.0.now c.loop-line.line-index c.line-item.result _ _ _ _ _ _ c.loop-line.invariant _ _ _ c.in_err-pour.field-0.0 c.from_residual.result _ c.loop-line-test.true (ap (λ (line : Line). step_text line.step) c.line-item.is) c.from_residual.ensures.0 c.in_err-pour.ensures

pub loop-line-preserved : goal.loop-line-preserved
loop-line-preserved g c = loop_goes_on (λ (line : Line). step_text line.step) c.args.self.now.0.now c.loop-line.line-index c.line-item.result _ _ _ _ _ _ c.loop-line.invariant _ _ _ c.in_ok-pour.field-0 _ c.loop-line-test.true (ap (λ (line : Line). step_text line.step) c.line-item.is) c.in_ok-pour.ensures
