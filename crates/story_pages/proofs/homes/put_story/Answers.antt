use Rattle.lists.proofs.JoinLaws.{joined_2}
use Rattle.story_pages.proofs.homes.put_story.Goals as goal

pub returns : goal.returns
returns c = joined_2 _ _ _ _ _ c.in_ok-put_forced.ensures c.in_ok-put_lemmas.ensures
