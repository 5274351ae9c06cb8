use Rattle.lists.proofs.JoinLaws.{joined_4}
use Rattle.story_pages.proofs.sentences.put_by_axiom.Goals as goal

pub returns : goal.returns
returns c = joined_4 _ _ _ _ _ _ _ _ _ c.in_ok-append.ensures.ok c.in_ok-put_axiom.ensures c.in_ok-append-2.ensures.ok c.in_ok-put_stated_facts.ensures
