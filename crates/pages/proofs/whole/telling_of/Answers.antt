use Rattle.pages.proofs.whole.telling_of.Goals as goal

pub returns-in-Impossible : goal.returns-in-Impossible
returns-in-Impossible g c = rw c.in-Impossible.is c.tell.ensures
