use Rattle.lists.proofs.JoinLaws.{joined_6}
use Rattle.pages.proofs.headings.put_for.Goals as goal

pub returns : goal.returns
returns c = joined_6 _ _ _ _ _ _ _ _ _ _ _ _ _ c.in_ok-append.ensures.ok c.in_ok-put_size_voters.ensures c.in_ok-put_away.ensures c.in_ok-append-2.ensures.ok c.in_ok-put_size_alternatives.ensures c.in_ok-put_domain.ensures
