use Rattle.std.proofs.Common.{◌≡◌, ◌/◌, ◌%◌, ◌++◌, min, ℕ, ◌∙◌, ap₂, [], ◌∷◌, append_assoc}
use Rattle.vocab.specs.Limits.{instance_count}
use Rattle.vocab.specs.Tree.{tree_of}
use Rattle.meaning.specs.Instances.{instance_values}
use Rattle.retell.proofs.CitedLaws.{cut_digits}
use Rattle.instance_studies.proofs.values.+with_values.Goals as goal

pub returns-in-All : goal.returns-in-All
returns-in-All t c =
    let space = c.args.space.now in
    let p : ℕ = instance_count space (tree_of c.in-All.inner.value) in
    let cut : c.instance_count-block.result ≡ min p 18446744073709551615 = rw (← c.deref.ensures) c.instance_count-block.ensures in
    let d = cut_digits p c.args.number c.instance_count-block.result cut c.requires.number in
    rw c.in-All.is (
    c.with_values.ensures
    ∙ ap₂ (λ vs f. vs ++ instance_values space (tree_of f) (c.args.number % c.instance_count-block.result)) c.with.ensures c.deref-in-All.ensures
    ∙ append_assoc c.args.values (c.args.number / c.instance_count-block.result ∷ []) (instance_values space (tree_of c.in-All.inner.value) (c.args.number % c.instance_count-block.result))
    ∙ ap₂ (λ (q r : ℕ). c.args.values ++ q ∷ instance_values space (tree_of c.in-All.inner.value) r) d.0 d.1
    )
