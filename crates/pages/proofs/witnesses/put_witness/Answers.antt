use Rattle.lists.proofs.JoinLaws.{joined_4}
use Rattle.pages.proofs.witnesses.put_witness.Goals as goal

pub returns : goal.returns
returns g c = joined_4 _ _ _ _ _ _ _ _ _ c.in_ok-append.ensures.ok c.in_ok-put_axiom.ensures c.in_ok-put_mark.ensures c.in_ok-append-2.ensures.ok
