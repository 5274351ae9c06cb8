use Rattle.answer_text.proofs.worth.SharpWorthLineText.pour.Goals as goal

pub returns-in-Confirmed : goal.returns-in-Confirmed
returns-in-Confirmed g c = rw c.in-Confirmed.is c.put.ensures

pub returns-in-TooLong : goal.returns-in-TooLong
returns-in-TooLong g c = rw c.in-TooLong.is c.put-in-TooLong.ensures
