use Rattle.lists.proofs.JoinLaws.{joined_7}
use Rattle.pages.proofs.page.put_check.Goals as goal

pub returns : goal.returns
returns c = joined_7 _ _ _ _ _ _ _ _ _ _ _ _ _ _ _ c.in_ok-append.ensures.ok c.in_ok-put_file_name.ensures c.in_ok-append-2.ensures.ok c.in_ok-put_file_name-2.ensures c.in_ok-append-3.ensures.ok c.in_ok-put_text.ensures c.in_ok-append-4.ensures.ok
