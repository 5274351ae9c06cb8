use Rattle.std.proofs.Common.{◌∙◌, ◌<◌, ℕ, sym, ap, subst}
use Rattle.std.specs.Prelude.{slice_get}
use Rattle.vocab.specs.declared.kinds.Sort.TheVariants.{Profile}
use Rattle.vocab.specs.Size.{Extent, sort_count}
use Rattle.rule_pages.specs.Names.{is_given}
use Rattle.rule_pages.proofs.RestLemmas.{all_passed}
use Rattle.rule_pages.proofs.names.has_rule_name.Goals as goal

pub loop-p-preserved : goal.loop-p-preserved
loop-p-preserved g c =
    let size = g.K.OutcomeKind.size c.args.kind.now in
    let within : c.loop-p.p < sort_count size Profile =
    subst (λ (n : ℕ). c.loop-p.p < n) (c.count-count.ensures.value ∙ ap (λ (s : Extent). sort_count s Profile) c.space.ensures) c.loop-p-test.true in
    all_passed (λ p. is_given size c.args.name p (slice_get c.args.table.now p)) (sort_count size Profile) c.loop-p.p within (sym c.is_given.ensures ∙ c.if-not-is_given.false)
    ∙ c.loop-p.invariant
