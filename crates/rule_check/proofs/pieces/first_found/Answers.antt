use Rattle.std.proofs.Common.{◌≡◌, slice_get, Some, None, ◌∙◌, ap, subst, arith}
use Rattle.std.proofs.Math.Nat.{zero-add}
use Rattle.crew.proofs.Rights.{AreRight-at}
use Rattle.rule_check.specs.Pieces.{IsLeastOfPiece}
use Rattle.rule_check.proofs.PieceLemmas.{true_further, true_to_end, first_of_piece}
use Rattle.rule_check.proofs.pieces.first_found.Goals as goal

pub returns-in-Some : goal.returns-in-Some
returns-in-Some g c =
    let size = g.K.OutcomeKind.size c.args.round.now.trial.now.kind.now in
    let round = c.args.round.now in
    let right = IsLeastOfPiece size round.trial.now.table.now round.trial.now.named.now round.from round.to in
    let at : slice_get c.args.parts.now c.loop-piece.piece ≡ Some (Some c.in-Some.instance) = c.get.ensures ∙ ap Some c.in-Some.is in
    first_of_piece size round.trial.now.table.now round.trial.now.named.now round.from round.to c.loop-piece.piece c.in-Some.instance c.loop-piece.invariant
    (subst (λ n. right n (Some c.in-Some.instance)) (zero-add c.loop-piece.piece) (AreRight-at right 0 c.loop-piece.piece _ (Some c.in-Some.instance) at c.requires.right))

pub loop-piece-preserved : goal.loop-piece-preserved
loop-piece-preserved g c =
    let size = g.K.OutcomeKind.size c.args.round.now.trial.now.kind.now in
    let round = c.args.round.now in
    let right = IsLeastOfPiece size round.trial.now.table.now round.trial.now.named.now round.from round.to in
    let at : slice_get c.args.parts.now c.loop-piece.piece ≡ Some None = c.get.ensures ∙ ap Some c.in_default.is in
    true_further size round.trial.now.table.now round.trial.now.named.now round.from round.to c.loop-piece.piece c.loop-piece.invariant
    (subst (λ n. right n None) (zero-add c.loop-piece.piece) (AreRight-at right 0 c.loop-piece.piece _ None at c.requires.right))

pub returns : goal.returns
returns g c =
    let size = g.K.OutcomeKind.size c.args.round.now.trial.now.kind.now in
    let round = c.args.round.now in
    true_to_end size round.trial.now.table.now round.trial.now.named.now round.from round.to c.loop-piece.piece (omega (arith, c.requires.whole)) c.loop-piece.invariant
