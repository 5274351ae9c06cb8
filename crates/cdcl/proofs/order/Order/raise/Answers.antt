use Rattle.std.proofs.Common.{arith, ap, ◌≡◌, ◌<◌, ◌≤◌, ◌∙◌, ◌+◌, ◌-◌, ℕ, List, sym, subst, get_or, length}
use Rattle.cdcl.specs.Order.{OrderState, IsHeapBut, IsHeapFrom, IsHeld, raised}
use Rattle.cdcl.proofs.OrderLemmas.{but_raised, length-raised, order_restored}
use Rattle.cdcl.proofs.order.Order.raise.Goals as goal

in_range : (variable count places : ℕ) → 1 ≤ variable → variable ≤ places → places ≡ count → variable - 1 < count
in_range variable count places low high same = omega arith

pub add_one-anew-requires : goal.add_one-anew-requires
add_one-anew-requires c = record {
  v = in_range c.args.variable _ _ c.requires.low c.requires.high (sym (ap (λ (o : OrderState). length o.places) c.self.view_is) ∙ c.self.invariant.stored.index.sizes ∙ sym c.self.invariant.stored.activities);
  low = c.self.invariant.low;
}

pub restore-requires : goal.restore-requires
restore-requires c =
    let activity : List ℕ = c.self.inside.activity.items in
    let heap : List ℕ = c.self.inside.heap.items in
    let place : List ℕ = c.self.inside.place.items in
    let v : ℕ = c.args.variable - 1 in
    let in_heap : v < length heap = in_range c.args.variable _ _ c.requires.low c.requires.high (sym (ap (λ (o : OrderState). length o.places) c.self.view_is) ∙ c.self.invariant.stored.index.sizes) in
    record {
      stored = record {
        index = c.self.invariant.stored.index;
        activities = ap (λ (xs : List ℕ). length xs) (c.as_slice.ensures.value ∙ c.add_one-anew.ensures.activity) ∙ length-raised activity v ∙ c.self.invariant.stored.activities;
        within = c.self.invariant.stored.within;
      };
      v = in_heap;
      heap = λ no. subst (λ (xs : List ℕ). IsHeapBut xs heap place c.self.inside.size v) (sym (c.as_slice.ensures.value ∙ c.add_one-anew.ensures.risen no))
          (but_raised activity heap place c.self.inside.size v (get_or activity v 0 + 1) c.self.invariant.stored.index (subst (λ (n : ℕ). v < n) (sym c.self.invariant.stored.activities) in_heap) c.self.invariant.stored.activities c.self.invariant.stored.within (omega arith) c.self.invariant.order);
    }

pub invariant_of-self : goal.invariant_of-self
invariant_of-self c =
    order_restored c.self.inside.activity.items c.self.inside.phase.items c.self.inside.heap.items c.self.inside.place.items c.self.inside.size c.add_one-anew.new.activity.items c.restore.new.heap.items c.restore.new.place.items c.self.invariant
    (ap (λ (xs : List ℕ). length xs) c.add_one-anew.ensures.activity ∙ length-raised c.self.inside.activity.items (c.args.variable - 1)) c.add_one-anew.ensures.low c.restore.ensures.index c.restore.ensures.size
    (subst (λ (xs : List ℕ). IsHeapFrom xs c.restore.new.heap.items c.self.inside.size 0) c.as_slice.ensures.value c.restore.ensures.heap)

pub returns : goal.returns
returns c =
    let size : length c.restore.new.place.items ≡ length c.self.inside.place.items = c.restore.ensures.index.sizes ∙ c.restore.ensures.size ∙ sym c.self.invariant.stored.index.sizes in
    record {
      activity = c.add_one-anew.ensures.activity ∙ ap (λ (o : OrderState). raised o.activity (c.args.variable - 1)) c.self.view_is;
      phases = ap (λ (o : OrderState). o.phases) c.self.view_is;
      variables = size ∙ ap (λ (o : OrderState). length o.places) c.self.view_is;
      held = λ w h.
          let now : OrderState = record { activity = c.self.inside.activity.items; phases = c.self.inside.phase.items; places = c.self.inside.place.items; size = c.self.inside.size } in
          let was : IsHeld now w = subst (λ (o : OrderState). IsHeld o w) (sym c.self.view_is) h in
          (subst (λ (n : ℕ). w < n) (sym size) was.0, c.restore.ensures.held w was.1);
    }
