use Rattle.lists.proofs.JoinLaws.{joined_3}
use Rattle.pages.proofs.witnesses.put_witnesses.Goals as goal

pub returns : goal.returns
returns g c = joined_3 _ _ _ _ _ _ _ c.in_ok-append.ensures.ok c.in_ok-put_marks.ensures c.in_ok-append-2.ensures.ok
