use Rattle.lists.proofs.JoinLaws.{joined_2}
use Rattle.pages.proofs.theorem.put_some_ballots.Goals as goal

pub returns : goal.returns
returns c = joined_2 _ _ _ _ _ c.in_ok-append.ensures.ok c.in_ok-put_all_ballots.ensures
