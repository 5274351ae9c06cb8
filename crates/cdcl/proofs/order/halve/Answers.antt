use Rattle.std.proofs.Common.{arith, ◌∙◌, ◌/◌, ◌++◌, ℕ, List, ap, drop, map, append-nil}
use Rattle.std.proofs.lemmas.List.Edits.{map_over_more}
use Rattle.std.proofs.lemmas.List.{take_all, drop_all}
use Rattle.cdcl.proofs.order.halve.Goals as goal

pub loop-i-preserved : goal.loop-i-preserved
loop-i-preserved c = record {
  items = map_over_more (λ x. x / 2) c.args.activity.now.items c.loop-i.activity.items c.loop-i.i c.index.result.now (omega (arith, c.loop-i-test.true, c.loop-i.invariant.end)) c.loop-i.invariant.items c.index.ensures;
  end = c.loop-i.invariant.end;
}

pub returns : goal.returns
returns c =
    let was : List ℕ = c.args.activity.now.items in
    c.loop-i.invariant.items
    ∙ ap (λ (xs : List ℕ). map (λ x. x / 2) xs ++ drop c.loop-i.i was) (take_all c.loop-i.i was (omega (arith, c.loop-i-test.false, c.loop-i.invariant.end)))
    ∙ ap (λ (xs : List ℕ). map (λ x. x / 2) was ++ xs) (drop_all c.loop-i.i was (omega (arith, c.loop-i-test.false, c.loop-i.invariant.end)))
    ∙ append-nil (map (λ x. x / 2) was)
