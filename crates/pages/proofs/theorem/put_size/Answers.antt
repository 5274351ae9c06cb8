use Rattle.lists.proofs.JoinLaws.{joined_12}
use Rattle.pages.proofs.theorem.put_size.Goals as goal

pub returns : goal.returns
returns c = joined_12 _ _ _ _ _ _ _ _ _ _ _ _ _ _ _ _ _ _ _ _ _ _ _ _ _ c.in_ok-append.ensures.ok c.in_ok-put_voters.ensures c.in_ok-append-2.ensures.ok c.in_ok-put_alternatives.ensures c.in_ok-append-3.ensures.ok c.in_ok-put_ballots.ensures c.in_ok-put_absent.ensures c.in_ok-append-4.ensures.ok c.in_ok-put_gives.ensures c.in_ok-append-5.ensures.ok c.in_ok-put_count.ensures c.in_ok-append-6.ensures.ok
