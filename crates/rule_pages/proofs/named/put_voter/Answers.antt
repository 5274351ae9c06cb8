use Rattle.lists.proofs.JoinLaws.{joined_3}
use Rattle.rule_pages.proofs.named.put_voter.Goals as goal

pub returns : goal.returns
returns c = joined_3 _ _ _ _ _ _ _ c.in_ok-put_before.ensures c.in_ok-put_voter_number.ensures c.in_ok-put_behind.ensures
