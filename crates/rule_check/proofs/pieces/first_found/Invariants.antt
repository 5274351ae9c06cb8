use Rattle.rule_check.proofs.PieceLemmas.{AreTrueBefore}
use Rattle.rule_check.proofs.pieces.first_found.Given as goal

abbrev pub invariant-loop-piece : goal.invariant-loop-piece
invariant-loop-piece g l = AreTrueBefore (g.K.OutcomeKind.size l.round.trial.now.kind.now) l.round.trial.now.table.now l.round.trial.now.named.now l.round.from l.round.to l.piece
