use Rattle.answer_text.proofs.worth.RefusalWordText.pour.Goals as goal

pub returns-in-NotInCore : goal.returns-in-NotInCore
returns-in-NotInCore g c = rw c.in-NotInCore.is c.put-in-NotInCore.ensures
