use Rattle.texts.proofs.FinishLemmas.{stopped_err, finish_err}
use Rattle.texts.proofs.writing.put_text.Goals as goal

pub returns-in_err-pour-clause-err : goal.returns-in_err-pour-clause-err
returns-in_err-pour-clause-err g c = stopped_err _ _ _ _ _ _ c.in_err-pour.field-0.0 _ c.from_residual.result c.new-page.ensures c.in_err-pour.ensures

pub returns-clause-err : goal.returns-clause-err
returns-clause-err g c = finish_err _ _ _ _ _ _ _ _ c.in_ok-pour.field-0 _ c.hand_on.result c.new-page.ensures c.in_ok-pour.ensures c.hand_on.ensures.bytes c.hand_on.ensures.grown
