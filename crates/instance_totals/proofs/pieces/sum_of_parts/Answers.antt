use Rattle.std.proofs.Common.{◌≡◌, ◌∙◌, ap, subst, ℕ, ◌≤◌, min, arith}
use Rattle.std.proofs.Math.Nat.{zero-add}
use Rattle.crew.proofs.Rights.{AreRight-at}
use Rattle.instance_stories.proofs.AllInstances.{counts_within}
use Rattle.instance_totals.specs.Sums.{IsSumOfPiece, counts_from, piece_start}
use Rattle.instance_totals.proofs.SumLemmas.{counts_same, part_small, piece_more}
use Rattle.instance_totals.proofs.pieces.sum_of_parts.Goals as goal

pub overflow_add-clauses : goal.overflow_add-clauses
overflow_add-clauses c =
    let study = c.args.study.now in
    let piece = c.loop-piece.piece in
    let part = c.get-part.result.now in
    let right = IsSumOfPiece study c.args.place c.args.count in
    let here : right piece part = subst (λ (n : ℕ). right n part) (zero-add piece) (AreRight-at right 0 piece _ part c.get-part.ensures c.requires.parts.right) in
    let le : piece_start piece ≤ c.args.count = omega (arith, c.requires.parts.exact, c.loop-piece-test.true) in
    let start : min (piece_start piece) c.args.count ≡ piece_start piece = omega (arith, le) in
    let so_far = c.loop-piece.invariant.clauses ∙ ap (λ (n : ℕ). (counts_from study c.args.place 0 n).clauses) start in
    let counted = c.requires.counted in
    let small = part_small study c.args.place counted.narrow counted.there (counts_within study c.axioms-axioms.ensures.study c.args.place) c.args.count piece part counted.within le here in
    omega (arith, small.0, so_far)

pub overflow_add-literals : goal.overflow_add-literals
overflow_add-literals c =
    let study = c.args.study.now in
    let piece = c.loop-piece.piece in
    let part = c.get-part.result.now in
    let right = IsSumOfPiece study c.args.place c.args.count in
    let here : right piece part = subst (λ (n : ℕ). right n part) (zero-add piece) (AreRight-at right 0 piece _ part c.get-part.ensures c.requires.parts.right) in
    let le : piece_start piece ≤ c.args.count = omega (arith, c.requires.parts.exact, c.loop-piece-test.true) in
    let start : min (piece_start piece) c.args.count ≡ piece_start piece = omega (arith, le) in
    let so_far = c.loop-piece.invariant.literals ∙ ap (λ (n : ℕ). (counts_from study c.args.place 0 n).literals) start in
    let counted = c.requires.counted in
    let small = part_small study c.args.place counted.narrow counted.there (counts_within study c.axioms-axioms.ensures.study c.args.place) c.args.count piece part counted.within le here in
    omega (arith, small.1, so_far)

pub loop-piece-preserved : goal.loop-piece-preserved
loop-piece-preserved c =
    let study = c.args.study.now in
    let piece = c.loop-piece.piece in
    let part = c.get-part.result.now in
    let right = IsSumOfPiece study c.args.place c.args.count in
    let here : right piece part = subst (λ (n : ℕ). right n part) (zero-add piece) (AreRight-at right 0 piece _ part c.get-part.ensures c.requires.parts.right) in
    let le : piece_start piece ≤ c.args.count = omega (arith, c.requires.parts.exact, c.loop-piece-test.true) in
    let start : min (piece_start piece) c.args.count ≡ piece_start piece = omega (arith, le) in
    let clauses = c.loop-piece.invariant.clauses ∙ ap (λ (n : ℕ). (counts_from study c.args.place 0 n).clauses) start in
    let literals = c.loop-piece.invariant.literals ∙ ap (λ (n : ℕ). (counts_from study c.args.place 0 n).literals) start in
    let more = piece_more study c.args.place c.args.count piece part le here in
    record { clauses = omega (arith, more.0, clauses); literals = omega (arith, more.1, literals) }

pub returns : goal.returns
returns c =
    let study = c.args.study.now in
    let end : min (piece_start c.loop-piece.piece) c.args.count ≡ c.args.count = omega (arith, c.requires.parts.whole, c.loop-piece-test.false) in
    counts_same _ _ _ _ (c.loop-piece.invariant.clauses ∙ ap (λ (n : ℕ). (counts_from study c.args.place 0 n).clauses) end)
    (c.loop-piece.invariant.literals ∙ ap (λ (n : ℕ). (counts_from study c.args.place 0 n).literals) end)
