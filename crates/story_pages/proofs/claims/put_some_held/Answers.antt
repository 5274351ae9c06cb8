use Rattle.lists.proofs.JoinLaws.{joined_3}
use Rattle.story_pages.proofs.claims.put_some_held.Goals as goal

pub returns : goal.returns
returns c = joined_3 _ _ _ _ _ _ _ c.in_ok-put_start.ensures c.in_ok-put_all_listed.ensures c.in_ok-put_end_fold.ensures
