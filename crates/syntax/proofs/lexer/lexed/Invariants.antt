use Rattle.std.proofs.Common.{length}
use Rattle.syntax.proofs.Lexings.{SoFar}
use Rattle.syntax.proofs.lexer.lexed.Given as goal

abbrev pub invariant-loop-c : goal.invariant-loop-c
invariant-loop-c l = SoFar l.text l.found l.count l.rest

abbrev pub decreases-loop-c : goal.decreases-loop-c
decreases-loop-c l = length l.rest
