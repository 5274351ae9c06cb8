use Rattle.std.proofs.Common.{refl}
use Rattle.top_call.proofs.CalmLemmas.{calm_call}
use Rattle.top_call.proofs.top.bench_calmly.Goals as goal

pub returns-clause-no_read_fault : goal.returns-clause-no_read_fault
returns-clause-no_read_fault g c = (calm_call _ _ _ c.calls_are_complete.ensures c.bench-run.ensures (λ name. refl) (λ name. refl) refl refl).no_read_fault

pub returns-clause-no_write_fault : goal.returns-clause-no_write_fault
returns-clause-no_write_fault g c = (calm_call _ _ _ c.calls_are_complete.ensures c.bench-run.ensures (λ name. refl) (λ name. refl) refl refl).no_write_fault
