use Rattle.lists.proofs.JoinLaws.{joined_5}
use Rattle.html.proofs.grids.put_grid.Goals as goal

pub returns : goal.returns
returns g c = joined_5 _ _ _ _ _ _ _ _ _ _ _ c.in_ok-append.ensures.ok c.in_ok-put_heads.ensures c.in_ok-append-2.ensures.ok c.in_ok-put_rows.ensures c.in_ok-append-3.ensures.ok
