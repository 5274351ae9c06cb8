use Rattle.lists.proofs.JoinLaws.{joined_3}
use Rattle.study_hints.proofs.keys.put_own.Goals as goal

pub returns : goal.returns
returns c = joined_3 _ _ _ _ _ _ _ c.in_ok-append.ensures.ok c.in_ok-put_keys.ensures c.in_ok-append-2.ensures.ok
