use Rattle.lists.proofs.JoinLaws.{joined_4}
use Rattle.story_pages.proofs.lemmas.put_claimed.Goals as goal

pub returns : goal.returns
returns c = joined_4 _ _ _ _ _ _ _ _ _ c.in_ok-append.ensures.ok c.in_ok-put_number.ensures c.in_ok-put_claims_words.ensures c.in_ok-put_opposites.ensures
