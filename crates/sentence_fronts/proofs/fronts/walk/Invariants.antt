use Rattle.std.proofs.Common.{length}
use Rattle.sentence_fronts.specs.Expected.{Walks}
use Rattle.sentence_fronts.proofs.fronts.walk.Given as goal

abbrev pub invariant-loop-lexeme : goal.invariant-loop-lexeme
invariant-loop-lexeme l = Walks l.text l.stack.items l.rest

abbrev pub decreases-loop-lexeme : goal.decreases-loop-lexeme
decreases-loop-lexeme l = length l.rest
