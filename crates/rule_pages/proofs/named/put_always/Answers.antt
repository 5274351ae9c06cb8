use Rattle.lists.proofs.JoinLaws.{joined_2}
use Rattle.rule_pages.proofs.named.put_always.Goals as goal

pub returns : goal.returns
returns g c = joined_2 _ _ _ _ _ c.in_ok-append.ensures.ok c.in_ok-put_outcome.ensures
