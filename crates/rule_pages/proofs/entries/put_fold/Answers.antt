use Rattle.lists.proofs.JoinLaws.{joined_6}
use Rattle.rule_pages.proofs.entries.put_fold.Goals as goal

pub returns : goal.returns
returns g c = joined_6 _ _ _ _ _ _ _ _ _ _ _ _ _ c.in_ok-put_fold_start.ensures c.in_ok-append.ensures.ok (rw c.space.ensures at c.in_ok-put_cast.ensures) c.in_ok-append-2.ensures.ok c.in_ok-put_entries.ensures c.in_ok-append-3.ensures.ok
