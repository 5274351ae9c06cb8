use Rattle.lists.proofs.JoinLaws.{joined_3}
use Rattle.pages.proofs.witnesses.put_open.Goals as goal

pub returns : goal.returns
returns c = joined_3 _ _ _ _ _ _ _ c.in_ok-append.ensures.ok c.in_ok-put_number.ensures c.in_ok-append-2.ensures.ok
