use Rattle.texts.proofs.PourLemmas.{stopped, followed}
use Rattle.texts.proofs.text.TwoText.pour.Goals as goal

pub returns-in_err-pour : goal.returns-in_err-pour
returns-in_err-pour g c = stopped _ _ _ _ _ _ _ _ c.in_err-pour.field-0.0 c.from_residual.result c.from_residual.ensures.0 c.in_err-pour.ensures

pub returns : goal.returns
returns g c = followed _ _ _ _ _ _ _ _ _ _ _ c.in_ok-pour.field-0 c.pour-2.result c.in_ok-pour.ensures c.pour-2.ensures
