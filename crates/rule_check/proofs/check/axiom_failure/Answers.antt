use Rattle.std.proofs.Common.{◌≡◌, ◌-◌, ◌^◌, min, ℕ, subst}
use Rattle.std.specs.Prelude.{IfOk}
use Rattle.vocab.specs.Limits.{instance_count}
use Rattle.lanes.proofs.InstanceLemmas.{counted_whole}
use Rattle.rule_check.specs.Pieces.{IsLeastFalse}
use Rattle.rule_check.proofs.check.axiom_failure.Goals as goal

pub returns : goal.returns
returns g c =
    let trial = c.args.trial.now in
    let size = g.K.OutcomeKind.size trial.kind.now in
    let cut : c.instance_count-count.result ≡ min (instance_count size trial.named.now.sentence) (2 ^ 64 - 1) = rw (c.space.ensures, c.sentence.ensures) at c.instance_count-count.ensures in
    let count = counted_whole _ _ cut trial.few in
    subst (λ (n : ℕ). IfOk c.least_failure.result (λ found. IsLeastFalse size trial.table.now trial.named.now 0 n found)) count c.least_failure.ensures
