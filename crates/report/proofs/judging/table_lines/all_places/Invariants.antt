use Rattle.std.proofs.Common.{◌≡◌}
use Rattle.meaning.specs.Space.{below}
use Rattle.report.proofs.judging.table_lines.all_places.Given as goal

abbrev pub invariant-loop-place : goal.invariant-loop-place
invariant-loop-place l = l.places.items ≡ below l.place
