use Rattle.std.proofs.Common.{refl}
use Rattle.explain_call.proofs.CalmLemmas.{calm_call}
use Rattle.explain_call.proofs.top.explain_calmly.Goals as goal

pub returns-clause-answered : goal.returns-clause-answered
returns-clause-answered g c = calm_call _ _ _ c.calls_are_complete.ensures c.explain-status.ensures (λ name. refl) (λ name. refl) refl refl
