use Rattle.std.proofs.Common.{sym, ◌∙◌}
use Rattle.sentence_fronts.proofs.Places.{may_end_there, may_not_end_there}
use Rattle.sentence_fronts.proofs.telling.is_told.Goals as goal

pub returns-in-End-clause-yes : goal.returns-in-End-clause-yes
returns-in-End-clause-yes c = λ t before x. rw c.in-End.is (may_end_there before _ x (sym c.is_complete.ensures ∙ t))

pub returns-in-End-clause-no : goal.returns-in-End-clause-no
returns-in-End-clause-no c = λ t before x. rw c.in-End.is (may_not_end_there before _ x (sym c.is_complete.ensures ∙ t))
