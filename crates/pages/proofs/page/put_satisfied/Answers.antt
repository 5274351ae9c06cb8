use Rattle.lists.proofs.JoinLaws.{joined_2}
use Rattle.pages.proofs.page.put_satisfied.Goals as goal

pub returns : goal.returns
returns c = rw c.args.about.now.counted (joined_2 _ _ _ _ _ c.in_ok-put_axioms.ensures c.in_ok-put_reading.ensures)
