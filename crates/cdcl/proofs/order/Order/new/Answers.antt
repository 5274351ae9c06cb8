use Rattle.std.proofs.Common.{◌≡◌, ℕ, List, refl, sym, subst, ap, length, replicate, ◌∙◌, arith, rules, false}
use Rattle.std.specs.Prelude.{All, Bool}
use Rattle.std.proofs.lemmas.List.{length-replicate}
use Rattle.std.proofs.lemmas.List.Elements.{All-replicate}
use Rattle.cdcl.proofs.OrderLemmas.{order_new}
use Rattle.cdcl.proofs.order.Order.new.Goals as goal

pub invariant_of-result : goal.invariant_of-result
invariant_of-result c =
    let n : ℕ = c.args.variables in
    let activity : c.in_ok-activity.activity.items ≡ replicate n 0 = search rules in
    let phase : c.in_ok-phase.phase.items ≡ replicate n false = search rules in
    order_new n _ _ _ _ (omega arith)
    (ap (λ (xs : List ℕ). length xs) activity ∙ length-replicate n 0) (ap (λ (xs : List Bool). length xs) phase ∙ length-replicate n false) c.in_ok-heap.ensures.size c.in_ok-place.ensures.size
    (subst (λ (xs : List ℕ). All (λ x. x ≡ 0) xs) (sym activity) (All-replicate (λ x. x ≡ 0) n 0 refl)) c.in_ok-heap.ensures.each c.in_ok-place.ensures.each
