use Rattle.grounding.proofs.WideLemmas.{AreNarrowBefore}
use Rattle.grounding.proofs.measuring.first_found.Given as goal

abbrev pub invariant-loop-piece : goal.invariant-loop-piece
invariant-loop-piece g l = AreNarrowBefore (g.K.OutcomeKind.size l.round.planned.now.kind.now) l.round.planned.now.named.now.sentence l.round.from l.round.to l.piece
