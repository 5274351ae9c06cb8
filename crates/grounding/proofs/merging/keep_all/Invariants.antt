use Rattle.std.proofs.Common.{take}
use Rattle.grounding.specs.Kept.{Keeps}
use Rattle.grounding.proofs.merging.keep_all.Given as goal

abbrev pub invariant-loop-k : goal.invariant-loop-k
invariant-loop-k l = Keeps l.fn.seen l.fn.out l.seen l.out (take l.k l.part)
