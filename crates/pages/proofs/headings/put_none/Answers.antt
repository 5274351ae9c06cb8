use Rattle.lists.proofs.JoinLaws.{joined_4}
use Rattle.pages.proofs.headings.put_none.Goals as goal

pub returns : goal.returns
returns c = joined_4 _ _ _ _ _ _ _ _ _ c.in_ok-append.ensures.ok c.in_ok-put_for.ensures c.in_ok-append-2.ensures.ok c.in_ok-put_names.ensures
