use Rattle.lists.proofs.JoinLaws.{joined_5}
use Rattle.pages.proofs.theorem.put_reading.Goals as goal

pub returns : goal.returns
returns c = joined_5 _ _ _ _ _ _ _ _ _ _ _ c.in_ok-append.ensures.ok c.in_ok-put_profile_words.ensures c.in_ok-put_left.ensures c.in_ok-put_table_words.ensures c.in_ok-append-2.ensures.ok
