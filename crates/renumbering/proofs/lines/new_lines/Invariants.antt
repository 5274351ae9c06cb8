use Rattle.std.proofs.Common.{◌≡◌, length, map, take}
use Rattle.renumbering.specs.Renumbered.{renumbered_line}
use Rattle.renumbering.proofs.lines.new_lines.Given as goal

abbrev pub invariant-loop-line : goal.invariant-loop-line
invariant-loop-line l = l.new ≡ map (renumbered_line (length l.places) l.after l.places) (take l.line-index l.lines)
