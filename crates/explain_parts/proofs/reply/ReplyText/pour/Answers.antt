use Rattle.explain_parts.proofs.reply.ReplyText.pour.Goals as goal

pub returns-in-Usage : goal.returns-in-Usage
returns-in-Usage g c = rw c.in-Usage.is c.put.ensures
