use Rattle.sentence_fronts.proofs.Places.{each_may}
use Rattle.sentence_fronts.proofs.telling.may_follow.Goals as goal

pub returns-in-Some-clause-yes : goal.returns-in-Some-clause-yes
returns-in-Some-clause-yes c = λ _ before x. each_may before _ _ _ x c.in-Some.ensures
