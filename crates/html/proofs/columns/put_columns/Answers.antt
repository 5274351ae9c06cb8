use Rattle.lists.proofs.JoinLaws.{joined_5}
use Rattle.html.proofs.columns.put_columns.Goals as goal

pub returns : goal.returns
returns c = joined_5 _ _ _ _ _ _ _ _ _ _ _ c.in_ok-append.ensures.ok c.in_ok-put_voters.ensures c.in_ok-append-2.ensures.ok c.in_ok-put_ranks.ensures c.in_ok-append-3.ensures.ok
