use Rattle.answer_text.proofs.study_faults.FaultWordsText.pour.Goals as goal

pub returns-in-Unknown : goal.returns-in-Unknown
returns-in-Unknown g c = rw c.in-Unknown.is (rw c.as_slice-in-Unknown.ensures at c.pour-in-Unknown.ensures)
