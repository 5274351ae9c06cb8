use Rattle.std.proofs.Common.{◌≡◌, ◌≤◌, ◌+◌, ap, arith, fold, min, subst, sym}
use Rattle.std.proofs.Math.Nat.{zero-add}
use Rattle.crew.proofs.Rights.{AreRight-at}
use Rattle.grounding.specs.Distinct.{kept_with}
use Rattle.grounding.specs.Pieces.{IsPartOf, sources_of, part_start}
use Rattle.grounding.proofs.KeptLaws.{kept-as, over-as}
use Rattle.grounding.proofs.SourceLemmas.{next-part, over-rest, sources-none}
use Rattle.grounding.proofs.merging.keep_parts.Goals as goal

pub loop-piece-init : goal.loop-piece-init
loop-piece-init g c = λ before kept is.
    let numbered = c.args.stretch.now.numbered.now in
    let size = g.K.OutcomeKind.size numbered.kind.now in
    let from = c.args.stretch.now.from in
    let none : min (part_start from 0) c.args.stretch.now.to ≤ from = omega arith in
    kept-as (sym (ap (fold kept_with kept) (sources-none size numbered.named.now.sentence numbered.base from (min (part_start from 0) c.args.stretch.now.to) none))) is

pub loop-piece-preserved : goal.loop-piece-preserved
loop-piece-preserved g c = λ before kept is.
    let numbered = c.args.stretch.now.numbered.now in
    let size = g.K.OutcomeKind.size numbered.kind.now in
    let sentence = numbered.named.now.sentence in
    let piece = c.loop-piece.piece in
    let right = IsPartOf size sentence numbered.base c.args.stretch.now.from c.args.stretch.now.to in
    let here : right piece c.get.result.now = subst (λ n. right n c.get.result.now) (zero-add piece) (AreRight-at right 0 piece _ c.get.result.now c.get.ensures c.requires.right) in
    kept-as (next-part size sentence numbered.base c.args.stretch.now.from c.args.stretch.now.to c.args.stretch.now.rising piece c.get.result.now kept here)
    (c.in-Ok.ensures.kept before _ (c.loop-piece.invariant before kept is))

pub returns-clause-kept : goal.returns-clause-kept
returns-clause-kept g c = λ before kept is.
    let numbered = c.args.stretch.now.numbered.now in
    let size = g.K.OutcomeKind.size numbered.kind.now in
    let whole : min (part_start c.args.stretch.now.from c.loop-piece.piece) c.args.stretch.now.to ≡ c.args.stretch.now.to = omega (arith, c.requires.whole) in
    kept-as (ap (λ m. fold kept_with kept (sources_of size numbered.named.now.sentence numbered.base c.args.stretch.now.from m)) whole) (c.loop-piece.invariant before kept is)

pub returns-in-Err-clause-full : goal.returns-in-Err-clause-full
returns-in-Err-clause-full g c = λ is-full before kept is.
    let numbered = c.args.stretch.now.numbered.now in
    let size = g.K.OutcomeKind.size numbered.kind.now in
    let sentence = numbered.named.now.sentence in
    let piece = c.loop-piece.piece in
    let right = IsPartOf size sentence numbered.base c.args.stretch.now.from c.args.stretch.now.to in
    let here : right piece c.get.result.now = subst (λ n. right n c.get.result.now) (zero-add piece) (AreRight-at right 0 piece _ c.get.result.now c.get.ensures c.requires.right) in
    over-rest size sentence numbered.base c.args.stretch.now.from (min (part_start c.args.stretch.now.from (piece + 1)) c.args.stretch.now.to) c.args.stretch.now.to before kept (omega (arith, c.args.stretch.now.rising)) (omega arith)
    (over-as before (next-part size sentence numbered.base c.args.stretch.now.from c.args.stretch.now.to c.args.stretch.now.rising piece c.get.result.now kept here)
    (c.in-Err.ensures.full is-full before _ (c.loop-piece.invariant before kept is)))
