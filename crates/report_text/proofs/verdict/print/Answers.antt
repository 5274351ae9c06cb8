use Rattle.texts.proofs.FinishLemmas.{stopped_err, finish_err}
use Rattle.report_text.proofs.verdict.print.Goals as goal

pub returns-in_err-pour_verdict-clause-err : goal.returns-in_err-pour_verdict-clause-err
returns-in_err-pour_verdict-clause-err g c = stopped_err _ _ _ _ _ _ c.in_err-pour_verdict.field-0.0 _ c.from_residual.result c.new-page.ensures c.in_err-pour_verdict.ensures

pub returns-clause-err : goal.returns-clause-err
returns-clause-err g c = finish_err _ _ _ _ _ _ _ _ c.in_ok-pour_verdict.field-0 _ c.hand_on.result c.new-page.ensures c.in_ok-pour_verdict.ensures c.hand_on.ensures.bytes c.hand_on.ensures.grown
