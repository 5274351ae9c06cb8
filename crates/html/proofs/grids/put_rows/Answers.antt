use Rattle.vocab.proofs.Ranges.{goes_on}
use Rattle.html.specs.Grids.{row_html}
use Rattle.html.proofs.grids.put_rows.Goals as goal

pub loop-b-preserved : goal.loop-b-preserved
loop-b-preserved g c = goes_on (row_html c.args.space.now (g.C.Cells.cell c.args.cells.now)) _ _ _ _ c.loop-b.invariant c.in_ok-put_row.ensures
