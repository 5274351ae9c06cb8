use Rattle.std.proofs.Common.{◌≡◌, ◌∙◌, ap, ℕ, ◌-◌, ◌^◌, min, Some, arith}
use Rattle.std.specs.Prelude.{slice_get}
use Rattle.vocab.specs.Limits.{instance_count}
use Rattle.vocab.specs.Size.{Extent}
use Rattle.vocab.specs.Titled.{Titled}
use Rattle.instance_stories.proofs.AllInstances.{counts_within}
use Rattle.instance_totals.specs.Sums.{counts_from}
use Rattle.instance_totals.proofs.SumLemmas.{count_is}
use Rattle.instance_totals.proofs.pieces.sum_of_axiom.Goals as goal

pub overflow_cast-pieces : goal.overflow_cast-pieces
overflow_cast-pieces g c =
    let study = c.args.setting.now.study.now in
    let size : Extent = g.K.OutcomeKind.size c.args.setting.now.kind.now in
    let a : Titled = c.get.result.now in
    let at : slice_get study.axioms c.args.place ≡ Some a = rw c.axioms.ensures.axioms at c.get.ensures in
    let cut : c.instance_count-count.result ≡ min (instance_count size a.sentence) (2 ^ 64 - 1) = rw (c.space.ensures, c.sentence-sentence.ensures) at c.instance_count-count.ensures in
    let same = count_is study size c.args.setting.now.same c.axioms.ensures.study c.args.place a at c.instance_count-count.result cut in
    let few = counts_within study c.axioms.ensures.study c.args.place in
    omega (arith, same, few, c.div_ceil-pieces.ensures)

pub returns : goal.returns
returns g c =
    let study = c.args.setting.now.study.now in
    let size : Extent = g.K.OutcomeKind.size c.args.setting.now.kind.now in
    let a : Titled = c.get.result.now in
    let at : slice_get study.axioms c.args.place ≡ Some a = rw c.axioms.ensures.axioms at c.get.ensures in
    let cut : c.instance_count-count.result ≡ min (instance_count size a.sentence) (2 ^ 64 - 1) = rw (c.space.ensures, c.sentence-sentence.ensures) at c.instance_count-count.ensures in
    let same = count_is study size c.args.setting.now.same c.axioms.ensures.study c.args.place a at c.instance_count-count.result cut in
    c.sum_of_parts.ensures ∙ ap (λ (n : ℕ). counts_from study c.args.place 0 n) same
