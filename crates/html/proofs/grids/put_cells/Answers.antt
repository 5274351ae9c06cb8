use Rattle.vocab.proofs.Ranges.{goes_on}
use Rattle.html.specs.Grids.{cell_html}
use Rattle.html.proofs.grids.put_cells.Goals as goal

pub loop-c-preserved : goal.loop-c-preserved
loop-c-preserved g c = goes_on (cell_html c.args.space.now (g.C.Cells.cell c.args.cells.now) c.args.b) _ _ _ _ c.loop-c.invariant c.in_ok-put_cell.ensures
