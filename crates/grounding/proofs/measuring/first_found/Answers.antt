use Rattle.std.proofs.Common.{subst, arith}
use Rattle.std.proofs.Math.Nat.{zero-add}
use Rattle.crew.proofs.Rights.{AreRight-at}
use Rattle.grounding.specs.Pieces.{IsFirstWide, IsFirstWideOfPiece, end_of, start_of}
use Rattle.grounding.proofs.WideLemmas.{narrow_further, narrow_to_end, wide_of_piece}
use Rattle.grounding.proofs.measuring.first_found.Goals as goal

pub returns-in-Some : goal.returns-in-Some
returns-in-Some g c =
    let size = g.K.OutcomeKind.size c.args.round.now.planned.now.kind.now in
    let round = c.args.round.now in
    let sentence = round.planned.now.named.now.sentence in
    let piece = c.loop-piece.piece in
    let right = IsFirstWideOfPiece size sentence round.from round.to in
    let here : right piece c.get.result.now = subst (λ n. right n c.get.result.now) (zero-add piece) (AreRight-at right 0 piece _ c.get.result.now c.get.ensures c.requires.right) in
    wide_of_piece size sentence round.from round.to piece _ c.loop-piece.invariant
    (subst (IsFirstWide size sentence (start_of round.from piece) (end_of round.from round.to piece)) c.in-Some.is here)

pub loop-piece-preserved : goal.loop-piece-preserved
loop-piece-preserved g c =
    let size = g.K.OutcomeKind.size c.args.round.now.planned.now.kind.now in
    let round = c.args.round.now in
    let sentence = round.planned.now.named.now.sentence in
    let piece = c.loop-piece.piece in
    let right = IsFirstWideOfPiece size sentence round.from round.to in
    let here : right piece c.get.result.now = subst (λ n. right n c.get.result.now) (zero-add piece) (AreRight-at right 0 piece _ c.get.result.now c.get.ensures c.requires.right) in
    narrow_further size sentence round.from round.to piece c.loop-piece.invariant
    (subst (IsFirstWide size sentence (start_of round.from piece) (end_of round.from round.to piece)) c.in_default.is here)

pub returns : goal.returns
returns g c =
    let size = g.K.OutcomeKind.size c.args.round.now.planned.now.kind.now in
    let round = c.args.round.now in
    narrow_to_end size round.planned.now.named.now.sentence round.from round.to c.loop-piece.piece (omega (arith, c.requires.whole)) c.loop-piece.invariant
