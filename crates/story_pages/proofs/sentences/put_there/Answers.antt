use Rattle.lists.proofs.JoinLaws.{joined_2}
use Rattle.story_pages.proofs.sentences.put_there.Goals as goal

pub returns : goal.returns
returns c = joined_2 _ _ _ _ _ c.in_ok-put_alone_claims.ensures c.in_ok-append.ensures.ok
