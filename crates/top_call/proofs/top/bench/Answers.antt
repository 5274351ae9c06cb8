use Rattle.std.proofs.Common.{refl}
use Rattle.words.specs.Words.{texts}
use Rattle.top_call.proofs.CallLemmas.{unread, cut}
use Rattle.top_call.proofs.top.bench.Goals as goal

pub returns-in-Err-ReadFault : goal.returns-in-Err-ReadFault
returns-in-Err-ReadFault g c = unread (texts c.args.words.now) _ c.bare.result c.bare.ensures refl (rw c.in-Err-ReadFault.field-0-is at c.in-Err-ReadFault.ensures)

pub returns-in-Err : goal.returns-in-Err
returns-in-Err g c =
    rw c.into_run-run.ensures (cut (texts c.args.words.now) _ c.in-Ok.answer c.in-Ok.ensures c.in-Err.ensures.err c.in-Err.ensures.cause.failed)
