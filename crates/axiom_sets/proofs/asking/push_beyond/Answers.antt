use Rattle.std.proofs.Common.{ap, ◌∙◌}
use Rattle.axiom_sets.specs.Next.{goes_beyond}
use Rattle.axiom_sets.proofs.AskLaws.{full_at}
use Rattle.axiom_sets.proofs.asking.push_beyond.Goals as goal

pub returns-in-Err-push-clause-full : goal.returns-in-Err-push-clause-full
returns-in-Err-push-clause-full c = λ e.
    full_at c.loop-set.clauses c.args.clauses.now.clauses (goes_beyond c.args.count) c.args.sets.now c.loop-set.set-index c.set-item.result c.loop-set-test.true c.set-item.is c.loop-set.invariant
    c.as_slice-in-Ok.result.now (c.as_slice-in-Ok.ensures.value ∙ c.in-Ok.ensures ∙ ap (goes_beyond c.args.count) c.as_slice.ensures) (c.push.ensures.full.0 (c.in-Err-push.is ∙ e))
