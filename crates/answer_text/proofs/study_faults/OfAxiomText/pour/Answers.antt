use Rattle.texts.proofs.PourLemmas.{stopped, followed}
use Rattle.answer_text.proofs.study_faults.OfAxiomText.pour.Goals as goal

pub returns-in_err-put : goal.returns-in_err-put
returns-in_err-put g c = stopped _ _ _ _ _ _ _ _ c.in_err-put.field-0.0 c.from_residual.result c.from_residual.ensures.0 (rw c.bytes.ensures at c.in_err-put.ensures)

pub returns-in_err-put-2 : goal.returns-in_err-put-2
returns-in_err-put-2 g c =
    let result = c.from_residual-in_err-put-2.result in
    followed _ _ _ _ _ _ _ _ _ _ _ c.in_ok-put.field-0 result (rw c.bytes.ensures at c.in_ok-put.ensures)
    (stopped _ _ _ _ _ _ _ _ c.in_err-put-2.field-0.0 result c.from_residual-in_err-put-2.ensures.0 c.in_err-put-2.ensures)

pub returns : goal.returns
returns g c =
    followed _ _ _ _ _ _ _ _ _ _ _ c.in_ok-put.field-0 c.pour.result (rw c.bytes.ensures at c.in_ok-put.ensures)
    (followed _ _ _ _ _ _ _ _ _ _ _ c.in_ok-put-2.field-0 c.pour.result c.in_ok-put-2.ensures c.pour.ensures)
