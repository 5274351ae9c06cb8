use Rattle.std.proofs.Common.{refl}
use Rattle.words.specs.Words.{texts}
use Rattle.explain_call.proofs.CallLemmas.{cut, unread, written}
use Rattle.explain_call.proofs.top.explain.Goals as goal

pub returns-in-Err-ReadFault : goal.returns-in-Err-ReadFault
returns-in-Err-ReadFault g c = unread (texts c.args.words.now) _ refl (rw c.in-Err-ReadFault.field-0-is at c.in-Err-ReadFault.ensures)

pub returns-in-Err : goal.returns-in-Err
returns-in-Err g c = cut (texts c.args.words.now) _ c.in-Ok.reply c.in-Ok.ensures c.in-Err.ensures.err c.in-Err.ensures.cause.failed

pub returns-in-Ok-write_text : goal.returns-in-Ok-write_text
returns-in-Ok-write_text g c =
    rw c.into_status.ensures (written (texts c.args.words.now) _ c.in-Ok.reply c.in-Ok.ensures c.in-Ok-write_text.ensures.ok)
