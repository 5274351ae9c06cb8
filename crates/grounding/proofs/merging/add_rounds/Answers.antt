use Rattle.std.proofs.Common.{◌∙◌, [], arith}
use Rattle.clause_form.specs.Sources.{sourced}
use Rattle.grounding.proofs.KeptLaws.{kept-as, over-as}
use Rattle.grounding.proofs.SourceLemmas.{next-round, over-rest}
use Rattle.grounding.proofs.merging.add_rounds.Goals as goal

pub loop-from-preserved : goal.loop-from-preserved
loop-from-preserved g c =
    let numbered = c.args.numbered.now in
    let size = g.K.OutcomeKind.size numbered.kind.now in
    record {
      within = c.round_end-end.ensures.within;
      rising = c.round_end-end.ensures.rising;
      more = c.round_end-end.ensures.more;
      short = c.round_end-end.ensures.short;
      right = rw c.in-Ok-made.is at c.keep_beside-made.ensures.right;
      whole = rw c.in-Ok-made.is at c.keep_beside-made.ensures.whole;
      kept = kept-as (next-round size numbered.named.now.sentence numbered.base c.loop-from.from c.loop-from.to c.loop-from.invariant.rising)
          ((rw c.in-Ok-kept.is at c.keep_beside-made.ensures.kept) _ _ c.loop-from.invariant.kept);
    }

pub returns-in-Err-clause-full : goal.returns-in-Err-clause-full
returns-in-Err-clause-full g c = λ is-full.
    let numbered = c.args.numbered.now in
    let size = g.K.OutcomeKind.size numbered.kind.now in
    let sentence = numbered.named.now.sentence in
    let before = sourced c.args.out.now.clauses c.args.out.now.origins in
    over-rest size sentence numbered.base 0 c.loop-from.to numbered.count before [] (omega arith) c.loop-from.invariant.within
    (over-as before (next-round size sentence numbered.base c.loop-from.from c.loop-from.to c.loop-from.invariant.rising)
    (c.keep_beside-made.ensures.full (c.in-Err.is ∙ is-full) _ _ c.loop-from.invariant.kept))
