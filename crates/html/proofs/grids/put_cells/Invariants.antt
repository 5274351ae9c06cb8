use Rattle.std.proofs.Common.{◌≡◌, ◌++◌}
use Rattle.std.specs.List.{flat_map}
use Rattle.vocab.specs.Range.{below}
use Rattle.html.specs.Grids.{cell_html}
use Rattle.html.proofs.grids.put_cells.Given as goal

-- what came so far was added
abbrev pub invariant-loop-c : goal.invariant-loop-c
invariant-loop-c g l = l.out ≡ l.initial.out ++ flat_map (cell_html l.space (g.C.Cells.cell l.cells) l.b) (below l.c)
