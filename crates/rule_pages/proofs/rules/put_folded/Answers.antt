use Rattle.lists.proofs.JoinLaws.{joined_3}
use Rattle.rule_pages.proofs.rules.put_folded.Goals as goal

pub returns : goal.returns
returns g c = joined_3 _ _ _ _ _ _ _ c.in_ok-append.ensures.ok c.in_ok-put_body.ensures c.in_ok-append-2.ensures.ok
