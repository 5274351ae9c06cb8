use Rattle.std.proofs.Common.{◌≡◌, ◌++◌}
use Rattle.std.specs.List.{flat_map}
use Rattle.vocab.specs.Range.{below}
use Rattle.html.specs.Columns.{voter_html}
use Rattle.html.proofs.columns.put_voters.Given as goal

-- what came so far was added
abbrev pub invariant-loop-i : goal.invariant-loop-i
invariant-loop-i l = l.out ≡ l.initial.out ++ flat_map voter_html (below l.i)
