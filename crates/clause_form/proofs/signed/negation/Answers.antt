use Rattle.clause_form.proofs.SideLaws.{not_known, not_open}
use Rattle.clause_form.proofs.signed.negation.Goals as goal

pub returns-in-Known : goal.returns-in-Known
returns-in-Known c = λ size positive x h. not_known size positive c.in-Known.truth x (rw c.in-Known.is at h)

pub returns-in-Open : goal.returns-in-Open
returns-in-Open c = λ size positive x h. not_open size positive c.in-Open.rows x (rw c.in-Open.is at h)
