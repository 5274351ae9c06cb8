use Rattle.std.proofs.Common.{◌≡◌, ◌++◌}
use Rattle.std.specs.List.{flat_map}
use Rattle.vocab.specs.Range.{below}
use Rattle.html.specs.Grids.{row_html}
use Rattle.html.proofs.grids.put_rows.Given as goal

-- what came so far was added
abbrev pub invariant-loop-b : goal.invariant-loop-b
invariant-loop-b g l = l.out ≡ l.initial.out ++ flat_map (row_html l.space (g.C.Cells.cell l.cells)) (below l.b)
