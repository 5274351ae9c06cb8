use Rattle.std.proofs.Common.{◌≡◌, ◌∙◌, ap, length, ◌<◌, arith}
use Rattle.instance_stories.proofs.AllInstances.{counts_within}
use Rattle.instance_totals.proofs.SumLemmas.{all_small}
use Rattle.instance_totals.proofs.TotalLemmas.{front_more}
use Rattle.instance_totals.proofs.totals.with_instances.Goals as goal

pub overflow_add-clauses : goal.overflow_add-clauses
overflow_add-clauses g c =
    let study = c.args.setting.now.study.now in
    let place = c.loop-place.place in
    let count : c.len-count.result ≡ length study.axioms = c.len-count.ensures ∙ ap length c.axioms.ensures.axioms in
    let there : place < length study.axioms = omega (arith, count, c.loop-place-test.true) in
    let small = all_small study place c.requires.narrow there (counts_within study c.axioms.ensures.study place) c.in_ok-sum.sum c.in_ok-sum.ensures in
    omega (arith, small.0, c.loop-place.invariant.few, there, c.requires.listed)

pub overflow_add-literals : goal.overflow_add-literals
overflow_add-literals g c =
    let study = c.args.setting.now.study.now in
    let place = c.loop-place.place in
    let count : c.len-count.result ≡ length study.axioms = c.len-count.ensures ∙ ap length c.axioms.ensures.axioms in
    let there : place < length study.axioms = omega (arith, count, c.loop-place-test.true) in
    let small = all_small study place c.requires.narrow there (counts_within study c.axioms.ensures.study place) c.in_ok-sum.sum c.in_ok-sum.ensures in
    omega (arith, small.1, c.loop-place.invariant.small, there, c.requires.listed)

pub loop-place-preserved : goal.loop-place-preserved
loop-place-preserved g c =
    let study = c.args.setting.now.study.now in
    let place = c.loop-place.place in
    let count : c.len-count.result ≡ length study.axioms = c.len-count.ensures ∙ ap length c.axioms.ensures.axioms in
    let there : place < length study.axioms = omega (arith, count, c.loop-place-test.true) in
    let small = all_small study place c.requires.narrow there (counts_within study c.axioms.ensures.study place) c.in_ok-sum.sum c.in_ok-sum.ensures in
    let more = front_more study place c.in_ok-sum.sum c.in_ok-sum.ensures in
    record {
      within = omega (arith, c.loop-place-test.true);
      clauses = omega (arith, more.0, c.loop-place.invariant.clauses);
      literals = omega (arith, more.1, c.loop-place.invariant.literals);
      few = omega (arith, small.0, c.loop-place.invariant.few);
      small = omega (arith, small.1, c.loop-place.invariant.small);
    }
