use Rattle.std.proofs.Common.{sym}
use Rattle.words.specs.Words.{texts}
use Rattle.explain_words.specs.Words.{request_of}
use Rattle.explain_call.proofs.CallLemmas.{asked_reply, no_memory, usage_reply}
use Rattle.explain_call.proofs.top.reply.Goals as goal

pub returns-in-Ok-Some-Story : goal.returns-in-Ok-Some-Story
returns-in-Ok-Some-Story g c =
    asked_reply _ _ _ _ _ _ _ _ (rw (c.in-Ok-Some-Story.field-0-is, c.in-Ok-Some-Story.field-0-0-is) at c.in-Ok-Some-Story.ensures.command) c.story.ensures

pub returns-in-Ok-Some-Instance : goal.returns-in-Ok-Some-Instance
returns-in-Ok-Some-Instance g c =
    asked_reply _ _ _ _ _ _ _ _ (rw (c.in-Ok-Some-Instance.field-0-is, c.in-Ok-Some-Instance.field-0-0-is) at c.in-Ok-Some-Instance.ensures.command) c.instance.ensures

pub returns-in-Ok-Some-Rules : goal.returns-in-Ok-Some-Rules
returns-in-Ok-Some-Rules g c =
    asked_reply _ _ _ _ _ _ _ _ (rw (c.in-Ok-Some-Rules.field-0-is, c.in-Ok-Some-Rules.field-0-0-is) at c.in-Ok-Some-Rules.ensures.command) c.rules.ensures

pub returns-in-Ok-Some-Cores : goal.returns-in-Ok-Some-Cores
returns-in-Ok-Some-Cores g c =
    asked_reply _ _ _ _ _ _ _ _ (rw (c.in-Ok-Some-Cores.field-0-is, c.in-Ok-Some-Cores.field-0-0-is) at c.in-Ok-Some-Cores.ensures.command) c.cores.ensures

pub returns-in-Ok-Some-Look : goal.returns-in-Ok-Some-Look
returns-in-Ok-Some-Look g c =
    asked_reply _ _ _ _ _ _ _ _ (rw (c.in-Ok-Some-Look.field-0-is, c.in-Ok-Some-Look.field-0-0-is) at c.in-Ok-Some-Look.ensures.command) c.look.ensures

pub returns-in-Ok-None : goal.returns-in-Ok-None
returns-in-Ok-None g c =
    usage_reply (request_of (texts c.args.words.now)) (g.S.Shelf.files c.args.shelf.now) _ _ (sym (rw c.in-Ok-None.field-0-is at c.in-Ok-None.ensures.command))

pub returns-in-Err : goal.returns-in-Err
returns-in-Err g c = no_memory (request_of (texts c.args.words.now)) (g.S.Shelf.files c.args.shelf.now) _ _
