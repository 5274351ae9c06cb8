use Rattle.std.proofs.Common.{◌≡◌, ◌∙◌, ap, ℕ, ◌-◌, arith, lt-ltb}
use Rattle.std.proofs.lemmas.Bool.{and_from}
use Rattle.instance_stories.proofs.AllInstances.{counts_within}
use Rattle.instance_totals.specs.Sums.{counts_from}
use Rattle.instance_totals.proofs.SumLemmas.{counts_same, next_small, one_more}
use Rattle.instance_totals.proofs.pieces.sum_of.Goals as goal

pub counts_of-here-requires-clause-present : goal.counts_of-here-requires-clause-present
counts_of-here-requires-clause-present g c κs within = and_from _ _ (lt-ltb _ _ c.requires.there) (lt-ltb _ _ (omega (arith, c.loop-number-test.true, c.requires.within)))

pub overflow_add-clauses : goal.overflow_add-clauses
overflow_add-clauses g c =
    let study = c.args.study.now in
    let small = next_small study c.args.place c.requires.narrow c.requires.there (counts_within study c.axioms-axioms.ensures.study c.args.place) c.args.from c.loop-number.number c.counts_of-here.result c.loop-number.invariant.rising (omega (arith, c.loop-number-test.true, c.requires.within)) c.counts_of-here.ensures in
    omega (arith, small.0, c.loop-number.invariant.clauses)

pub overflow_add-literals : goal.overflow_add-literals
overflow_add-literals g c =
    let study = c.args.study.now in
    let small = next_small study c.args.place c.requires.narrow c.requires.there (counts_within study c.axioms-axioms.ensures.study c.args.place) c.args.from c.loop-number.number c.counts_of-here.result c.loop-number.invariant.rising (omega (arith, c.loop-number-test.true, c.requires.within)) c.counts_of-here.ensures in
    omega (arith, small.1, c.loop-number.invariant.literals)

pub loop-number-preserved : goal.loop-number-preserved
loop-number-preserved g c =
    let study = c.args.study.now in
    let more = one_more study c.args.place c.args.from c.loop-number.number c.counts_of-here.result c.loop-number.invariant.rising c.counts_of-here.ensures in
    record {
      rising = omega (arith, c.loop-number.invariant.rising);
      within = omega (arith, c.loop-number-test.true);
      clauses = omega (arith, more.0, c.loop-number.invariant.clauses);
      literals = omega (arith, more.1, c.loop-number.invariant.literals);
    }

pub returns : goal.returns
returns g c =
    let study = c.args.study.now in
    let end : c.loop-number.number - c.args.from ≡ c.args.to - c.args.from = omega (arith, c.loop-number-test.false, c.loop-number.invariant.within) in
    counts_same _ _ _ _ (c.loop-number.invariant.clauses ∙ ap (λ (n : ℕ). (counts_from study c.args.place c.args.from n).clauses) end)
    (c.loop-number.invariant.literals ∙ ap (λ (n : ℕ). (counts_from study c.args.place c.args.from n).literals) end)
