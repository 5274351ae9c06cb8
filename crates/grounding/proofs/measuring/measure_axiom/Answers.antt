use Rattle.std.proofs.Common.{◌≡◌, ◌-◌, ◌^◌, min, ℕ, subst}
use Rattle.std.specs.Prelude.{IfOk}
use Rattle.vocab.specs.Limits.{instance_count}
use Rattle.lanes.proofs.InstanceLemmas.{counted_whole}
use Rattle.grounding.specs.Pieces.{IsFirstWide}
use Rattle.grounding.proofs.measuring.measure_axiom.Goals as goal

pub invariant_of-planned-clause-counted : goal.invariant_of-planned-clause-counted
invariant_of-planned-clause-counted g c =
    let size = g.K.OutcomeKind.size c.args.groundable.now.kind.now in
    let cut : c.instance_count.result ≡ min (instance_count size c.args.groundable.now.named.now.sentence) (2 ^ 64 - 1) = rw (c.space.ensures, c.sentence.ensures) at c.instance_count.ensures in
    counted_whole _ _ cut c.args.groundable.now.few

pub returns : goal.returns
returns g c =
    let size = g.K.OutcomeKind.size c.args.groundable.now.kind.now in
    let sentence = c.args.groundable.now.named.now.sentence in
    let cut : c.instance_count.result ≡ min (instance_count size sentence) (2 ^ 64 - 1) = rw (c.space.ensures, c.sentence.ensures) at c.instance_count.ensures in
    subst (λ (n : ℕ). IfOk c.measure_rounds.result (IsFirstWide size sentence 0 n)) (counted_whole _ _ cut c.args.groundable.now.few) c.measure_rounds.ensures
