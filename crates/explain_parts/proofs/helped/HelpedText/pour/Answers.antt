use Rattle.texts.proofs.PourLemmas.{stopped, followed}
use Rattle.explain_parts.proofs.helped.HelpedText.pour.Goals as goal

pub returns-in_err-pour : goal.returns-in_err-pour
returns-in_err-pour g c = stopped _ _ _ _ _ _ _ _ c.in_err-pour.field-0.0 c.from_residual.result c.from_residual.ensures.0 c.in_err-pour.ensures

pub returns : goal.returns
returns g c = followed _ _ _ _ _ _ _ _ _ _ _ c.in_ok-pour.field-0 c.put.result c.in_ok-pour.ensures (rw c.as_slice.ensures at c.put.ensures)
