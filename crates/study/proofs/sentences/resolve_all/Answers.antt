use Rattle.study.proofs.Resolved.{small_at}
use Rattle.study.proofs.sentences.resolve_all.Goals as goal

pub resolve_one-requires : goal.resolve_one-requires
resolve_one-requires c = small_at c.args.sentences.now c.loop-written.written-index c.written-item.result c.loop-written-test.true c.written-item.is c.requires
