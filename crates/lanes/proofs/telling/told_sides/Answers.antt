use Rattle.std.proofs.Common.{◌≡◌, ◌∙◌, ◌+◌, ◌≤◌, ◌%◌, ap, List, ℕ, min, inl, inr, arith}
use Rattle.vocab.specs.Formula.{body_of}
use Rattle.vocab.specs.Limits.{bases_of, instance_count}
use Rattle.vocab.specs.Tree.{tree_of}
use Rattle.meaning.specs.Clauses.{known_truth}
use Rattle.meaning.specs.declared.three.Three.TheVariants.{True}
use Rattle.meaning.specs.Written.{write_out}
use Rattle.lanes.specs.Lanes.{HasKnownPremise, place_in}
use Rattle.lanes.proofs.PlanLaws.{moved_here}
use Rattle.lanes.proofs.telling.told_sides.Goals as goal

pub loop-done-preserved : goal.loop-done-preserved
loop-done-preserved g c =
    let size = g.K.OutcomeKind.size c.args.kind.now in
    let sentence = c.args.named.now.sentence in
    let plan = c.args.plan.now in
    let number = c.args.number in
    let done = c.loop-done.done in
    let lanes = c.min-lanes.result in
    let place : ℕ = c.place_in-place.result in
    let shift : ℕ = place % c.chunk-chunk.result in
    let env = c.values_at-env.result in
    let count : c.instance_count-count.result ≡ min (instance_count size sentence) 18446744073709551615 = rw (c.space.ensures, c.sentence.ensures) at c.instance_count-count.ensures in
    let here : place ≡ place_in plan.shape.outer (bases_of size sentence) (number + done) = rw (c.space-in-loop-done.ensures, c.sentence-in-loop-done.ensures) at c.place_in-place.ensures in
    let body : tree_of c.body-body.result.now ≡ body_of sentence = c.body-body.ensures ∙ ap body_of c.sentence-in-loop-done-2.ensures in
    let sides = rw (c.space-in-loop-done-2.ensures, c.deref.ensures, body) at c.sides_of-sides.ensures.all in
    let premises = rw (c.space-in-loop-done-2.ensures, c.deref.ensures, body) at c.sides_of-sides.ensures.premise in
    let m0 = c.min.ensures in
    let m1 = c.min-in-loop-done.ensures in
    let m2 = c.min-lanes.ensures in
    let few : place + lanes ≤ plan.group = let p = c.if-place-plan.false in omega (arith, p, m0, m1, m2) in
    let within : number + done + lanes ≤ instance_count size sentence = let d = c.if-done-count.true in omega (arith, d, count, m0, m1, m2) in
    record {
      within = let old = c.loop-done.invariant.within in omega (arith, old, m0, m1, m2);
      told = λ j b. elim (c.moved-all.ensures j b) [
        | inl old ↦ c.loop-done.invariant.told j old
        | inr m ↦ moved_here size sentence plan c.requires.plan (λ (v : List ℕ). known_truth (write_out size (body_of sentence) v) ≡ True) c.sides_of-sides.result.all.yes number done lanes place shift j env here (omega arith) few within c.values_at-env.ensures.values
            (λ shape part long k l bit. (sides shape part long k l).yes bit) m
      ];
      premise = λ j b. elim (c.moved-premise.ensures j b) [
        | inl old ↦ c.loop-done.invariant.premise j old
        | inr m ↦ moved_here size sentence plan c.requires.plan (HasKnownPremise size (body_of sentence)) c.sides_of-sides.result.premise number done lanes place shift j env here (omega arith) few within c.values_at-env.ensures.values
            premises m
      ];
    }
