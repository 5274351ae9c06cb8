use Rattle.answer_text.proofs.worth.pour_confirmed.Goals as goal

pub returns-in-Possible : goal.returns-in-Possible
returns-in-Possible g c = rw c.in-Possible.is c.put.ensures

pub returns-in-Impossible : goal.returns-in-Impossible
returns-in-Impossible g c = rw c.in-Impossible.is c.put-in-Impossible.ensures
