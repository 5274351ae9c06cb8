use Rattle.lists.proofs.JoinLaws.{joined_3}
use Rattle.story_pages.proofs.ends.put_against.Goals as goal

pub returns : goal.returns
returns c = joined_3 _ _ _ _ _ _ _ c.in_ok-append.ensures.ok c.in_ok-put_axiom.ensures c.in_ok-put_values.ensures
