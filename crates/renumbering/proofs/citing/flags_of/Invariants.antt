use Rattle.std.proofs.Common.{take}
use Rattle.renumbering.specs.Renumbered.{AreFlags}
use Rattle.renumbering.proofs.citing.flags_of.Given as goal

abbrev pub invariant-loop-line : goal.invariant-loop-line
invariant-loop-line l = AreFlags l.count (take l.line-index l.lines) l.flags.items
