use Rattle.std.proofs.Common.{◌≡◌, ◌++◌}
use Rattle.std.specs.List.{flat_map}
use Rattle.vocab.specs.Range.{below}
use Rattle.html.specs.Columns.{spot_html}
use Rattle.html.proofs.columns.put_spots.Given as goal

-- what came so far was added
abbrev pub invariant-loop-i : goal.invariant-loop-i
invariant-loop-i l = l.out ≡ l.initial.out ++ flat_map (spot_html l.space l.p l.k) (below l.i)
