use Rattle.lists.proofs.JoinLaws.{joined_9}
use Rattle.story_pages.proofs.homes.put_outer.Goals as goal

pub returns : goal.returns
returns c = joined_9 _ _ _ _ _ _ _ _ _ _ _ _ _ _ _ _ _ _ _ c.in_ok-append.ensures.ok (rw c.is_last.ensures at c.in_ok-put_title.ensures) c.in_ok-append-2.ensures.ok c.in_ok-put_columns_of.ensures c.in_ok-put_suppose.ensures c.in_ok-put_body.ensures c.in_ok-append-3.ensures.ok c.in_ok-put_table.ensures c.in_ok-append-4.ensures.ok
