use Rattle.lists.proofs.JoinLaws.{joined_2}
use Rattle.story_pages.proofs.claims.put_winning.Goals as goal

pub returns : goal.returns
returns g c = joined_2 _ _ _ _ _ c.in_ok-put_phrase.ensures c.in_ok-put_phrase-2.ensures
