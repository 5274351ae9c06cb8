use Rattle.lists.proofs.JoinLaws.{joined_4}
use Rattle.pages.proofs.page.put_proved.Goals as goal

pub returns : goal.returns
returns c = joined_4 _ _ _ _ _ _ _ _ _ c.in_ok-put_core.ensures c.in_ok-put_reading.ensures c.in_ok-append.ensures.ok c.in_ok-put_story.ensures
