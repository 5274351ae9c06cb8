use Rattle.study.proofs.Resolved.{read_next, read_stops}
use Rattle.study.proofs.sentences.read_all.Goals as goal

pub returns-in-Err-clause-refused : goal.returns-in-Err-clause-refused
returns-in-Err-clause-refused c other =
    read_stops c.args.entries.now c.loop-entry.entry-index c.entry-item.result c.loop-entry.sentences _ c.loop-entry-test.true c.entry-item.is c.loop-entry.invariant (c.in-Err.ensures.refused other)

pub loop-entry-preserved : goal.loop-entry-preserved
loop-entry-preserved c =
    rw (c.in_ok-push-in-Ok.ensures.ok) (read_next c.args.entries.now c.loop-entry.entry-index c.entry-item.result c.loop-entry.sentences c.in-Ok.written c.loop-entry-test.true c.entry-item.is c.loop-entry.invariant c.in-Ok.ensures.read)
