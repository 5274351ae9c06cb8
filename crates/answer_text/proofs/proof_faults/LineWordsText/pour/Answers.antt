use Rattle.answer_text.proofs.proof_faults.LineWordsText.pour.Goals as goal

pub returns-in-NoConflict : goal.returns-in-NoConflict
returns-in-NoConflict g c = rw c.in-NoConflict.is c.put-in-NoConflict.ensures
