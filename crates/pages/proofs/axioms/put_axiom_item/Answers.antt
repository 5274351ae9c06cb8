use Rattle.lists.proofs.JoinLaws.{joined_5}
use Rattle.pages.proofs.axioms.put_axiom_item.Goals as goal

pub returns : goal.returns
returns c = joined_5 _ _ _ _ _ _ _ _ _ _ _ c.in_ok-append.ensures.ok c.in_ok-put_axiom.ensures c.in_ok-put_words.ensures c.in_ok-put_sentence.ensures c.in_ok-append-2.ensures.ok
