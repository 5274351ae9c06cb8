use Rattle.std.proofs.Common.{◌≤◌, length, drop}
use Rattle.sharp_lines.specs.Said.{HasNoBlank}
use Rattle.sharp_lines.proofs.last.last_blank.Given as goal

abbrev pub invariant-loop-place : goal.invariant-loop-place
invariant-loop-place l = (l.place ≤ length l.rest) × HasNoBlank (drop l.place l.rest)
