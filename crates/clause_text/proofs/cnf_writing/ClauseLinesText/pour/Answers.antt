use Rattle.std.proofs.Common.{◌++◌, ◌∷◌, [], ap, arith}
use Rattle.cnf.specs.Sat.{Clause}
use Rattle.clause_text.specs.Dimacs.{clause_text}
use Rattle.texts.proofs.LoopLemmas.{loop_stops, loop_goes_on}
use Rattle.clause_text.proofs.cnf_writing.ClauseLinesText.pour.Goals as goal

pub returns-in_err-pour : goal.returns-in_err-pour
returns-in_err-pour g c = loop_stops (λ (clause : Clause). clause_text clause ++ 10 ∷ []) c.args.self.now.0.now.clauses c.loop-place.place [] _ _ _ _ _ _ c.loop-place.invariant _ _ _ c.in_err-pour.field-0.0 c.from_residual.result _ (omega (arith, c.len-place-end.ensures.value, c.loop-place-test.true)) (ap (λ (clause : Clause). clause_text clause ++ 10 ∷ []) c.get.ensures) c.from_residual.ensures.0 c.in_err-pour.ensures

pub loop-place-preserved : goal.loop-place-preserved
loop-place-preserved g c = loop_goes_on (λ (clause : Clause). clause_text clause ++ 10 ∷ []) c.args.self.now.0.now.clauses c.loop-place.place [] _ _ _ _ _ _ c.loop-place.invariant _ _ _ c.in_ok-pour.field-0 _ (omega (arith, c.len-place-end.ensures.value, c.loop-place-test.true)) (ap (λ (clause : Clause). clause_text clause ++ 10 ∷ []) c.get.ensures) c.in_ok-pour.ensures
