use Rattle.lists.proofs.JoinLaws.{joined_6}
use Rattle.pages.proofs.page.put_front.Goals as goal

pub returns : goal.returns
returns c = joined_6 _ _ _ _ _ _ _ _ _ _ _ _ _ c.in_ok-put_opening.ensures c.in_ok-put_claim.ensures c.in_ok-put_styles.ensures c.in_ok-put_claim-2.ensures c.in_ok-append.ensures.ok c.in_ok-put_size.ensures
