use Rattle.lists.proofs.JoinLaws.{joined_6}
use Rattle.sharp_pages.proofs.instances.put_instance.Goals as goal

pub returns : goal.returns
returns c = joined_6 _ _ _ _ _ _ _ _ _ _ _ _ _ c.in_ok-append.ensures.ok c.in_ok-put_axiom.ensures c.in_ok-append-2.ensures.ok c.in_ok-put_number.ensures (rw c.open_words.ensures at c.in_ok-append-3.ensures.ok) c.in_ok-append-4.ensures.ok
