use Rattle.std.proofs.Common.{length}
use Rattle.sentence_fronts.proofs.Walking.{Skips}
use Rattle.sentence_fronts.proofs.fronts.after_blanks.Given as goal

abbrev pub invariant-loop-c : goal.invariant-loop-c
invariant-loop-c l = Skips l.text l.rest

abbrev pub decreases-loop-c : goal.decreases-loop-c
decreases-loop-c l = length l.rest
