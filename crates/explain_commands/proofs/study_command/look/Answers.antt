use Rattle.std.proofs.Common.{refl}
use Rattle.explain_parts.proofs.StudyReplies.{unread}
use Rattle.explain_commands.proofs.LookReplies.{look_reply, reads_look}
use Rattle.explain_commands.proofs.study_command.look.Goals as goal

pub returns-in-Ok : goal.returns-in-Ok
returns-in-Ok g c =
    look_reply c.args.study.now c.args.crew.now.workers (g.S.Shelf.files c.args.shelf.now) _ _ _ _ c.read_all.ensures.others
    c.in-Ok.bytes c.look_bytes.result c.in-Ok.ensures.bytes c.in-Ok.ensures.within
    (rw c.as_slice.ensures at c.look_bytes.ensures.said) c.look_bytes.ensures.has_text c.look_bytes.ensures.read

pub returns-in-Err-Failed : goal.returns-in-Err-Failed
returns-in-Err-Failed g c =
    unread _ c.args.study.now (reads_look c.args.study.now c.args.crew.now.workers) (g.S.Shelf.files c.args.shelf.now) _ _ _ _ c.read_all.ensures.others
    ((rw c.in-Err-Failed.field-0-is at c.in-Err-Failed.ensures.failed) refl)
