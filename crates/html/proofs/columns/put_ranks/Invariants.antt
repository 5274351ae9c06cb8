use Rattle.std.proofs.Common.{◌≡◌, ◌++◌}
use Rattle.std.specs.List.{flat_map}
use Rattle.vocab.specs.Range.{below}
use Rattle.html.specs.Columns.{rank_html}
use Rattle.html.proofs.columns.put_ranks.Given as goal

-- what came so far was added
abbrev pub invariant-loop-k : goal.invariant-loop-k
invariant-loop-k l = l.out ≡ l.initial.out ++ flat_map (rank_html l.space l.p) (below l.k)
