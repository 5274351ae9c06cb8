use Rattle.std.proofs.Common.{arith, ap, ◌≡◌, ◌<◌, ◌≤◌, ◌∙◌, ◌+◌, ◌-◌, ℕ, List, sym, subst, false, get_or, length, set}
use Rattle.std.proofs.lemmas.List.{get_or_default, get_or-set_same, length-set}
use Rattle.cdcl.specs.Order.{OrderState, IsHeapFrom, IsHeld}
use Rattle.cdcl.proofs.HeapLemmas.{length-swapped, moved_not, moved_there, rising_at_end}
use Rattle.cdcl.proofs.order.Order.put_back.Goals as goal

in_range : (variable count places : ℕ) → 1 ≤ variable → variable ≤ places → places ≡ count → variable - 1 < count
in_range variable count places low high same = omega arith

pub invariant_of-self : goal.invariant_of-self
invariant_of-self c = record {
  stored = c.self.invariant.stored;
  phases = length-set c.self.inside.phase.items (c.args.variable - 1) c.args.positive ∙ c.self.invariant.phases;
  order = c.self.invariant.order;
  low = c.self.invariant.low;
}

pub returns-then-at-size : goal.returns-then-at-size
returns-then-at-size c =
    let v : ℕ = c.args.variable - 1 in
    let places : length c.args.self.now.places ≡ length c.self.inside.place.items = sym (ap (λ (o : OrderState). length o.places) c.self.view_is) in
    let in_place : v < length c.self.inside.place.items = in_range c.args.variable _ _ c.requires.low c.requires.high places in
    let in_phase : v < length c.self.inside.phase.items = in_range c.args.variable _ _ c.requires.low c.requires.high (places ∙ c.self.invariant.stored.index.sizes ∙ sym c.self.invariant.phases) in
    let at : c.index.result.now ≡ get_or c.self.inside.place.items v 0 = c.index.ensures ∙ get_or_default c.self.inside.place.items v c.index.result.now 0 in_place in
    record {
      variables = sym places;
      held = λ w h. subst (λ (o : OrderState). IsHeld o w) (sym c.self.view_is) h;
      now = (in_place, subst (λ (n : ℕ). n < c.self.inside.size) at c.if-at-size.true);
      activity = ap (λ (o : OrderState). o.activity) c.self.view_is;
      phases = ap (λ (o : OrderState). set o.phases v c.args.positive) c.self.view_is;
      sign = get_or-set_same c.self.inside.phase.items v c.args.positive false in_phase;
    }

pub swap-requires : goal.swap-requires
swap-requires c =
    let heap : List ℕ = c.self.inside.heap.items in
    let v : ℕ = c.args.variable - 1 in
    let in_place : v < length c.self.inside.place.items = in_range c.args.variable _ _ c.requires.low c.requires.high (sym (ap (λ (o : OrderState). length o.places) c.self.view_is)) in
    let in_heap : c.index.result.now < length heap = subst (λ (n : ℕ). n < length heap) (sym c.index.ensures) (c.self.invariant.stored.index.place_in v c.index.result.now in_place) in
    record {
      index = c.self.invariant.stored.index;
      i = in_heap;
      j = let late = c.if-at-size.false in omega (arith, late, in_heap);
    }

pub rise-requires : goal.rise-requires
rise-requires c =
    let heap : List ℕ = c.self.inside.heap.items in
    let v : ℕ = c.args.variable - 1 in
    let size : ℕ = c.self.inside.size in
    let in_place : v < length c.self.inside.place.items = in_range c.args.variable _ _ c.requires.low c.requires.high (sym (ap (λ (o : OrderState). length o.places) c.self.view_is)) in
    let in_heap : c.index.result.now < length heap = subst (λ (n : ℕ). n < length heap) (sym c.index.ensures) (c.self.invariant.stored.index.place_in v c.index.result.now in_place) in
    let in_size : size < length heap = let late = c.if-at-size.false in omega (arith, late, in_heap) in
    let same : length c.swap.new.heap.items ≡ length heap = ap (λ (xs : List ℕ). length xs) c.swap.ensures.heap ∙ length-swapped heap c.index.result.now size in_heap in_size in
    record {
      stored = record {
        index = c.swap.ensures.index;
        activities = ap (λ (xs : List ℕ). length xs) c.as_slice.ensures.value ∙ c.self.invariant.stored.activities ∙ sym same;
        within = omega (arith, same, in_size);
      };
      from = omega arith;
      rising = rw (c.as_slice.ensures.value, c.swap.ensures.heap) (rising_at_end c.self.inside.activity.items heap size c.index.result.now c.self.invariant.order c.if-at-size.false in_heap);
    }

-- the sizes after the last step
sizes : (c : goal.After-rise) → length c.rise.new.heap.items ≡ length c.self.inside.heap.items
sizes c =
    let heap : List ℕ = c.self.inside.heap.items in
    let v : ℕ = c.args.variable - 1 in
    let in_place : v < length c.self.inside.place.items = in_range c.args.variable _ _ c.requires.low c.requires.high (sym (ap (λ (o : OrderState). length o.places) c.self.view_is)) in
    let in_heap : c.index.result.now < length heap = subst (λ (n : ℕ). n < length heap) (sym c.index.ensures) (c.self.invariant.stored.index.place_in v c.index.result.now in_place) in
    let in_size : c.self.inside.size < length heap = let late = c.if-at-size.false in omega (arith, late, in_heap) in
    c.rise.ensures.size ∙ ap (λ (xs : List ℕ). length xs) c.swap.ensures.heap ∙ length-swapped heap c.index.result.now c.self.inside.size in_heap in_size

pub invariant_of-self-2 : goal.invariant_of-self-2
invariant_of-self-2 c = record {
  stored = record {
    index = c.rise.ensures.index;
    activities = c.self.invariant.stored.activities ∙ sym (sizes c);
    within =
        let v : ℕ = c.args.variable - 1 in
        let in_place : v < length c.self.inside.place.items = in_range c.args.variable _ _ c.requires.low c.requires.high (sym (ap (λ (o : OrderState). length o.places) c.self.view_is)) in
        let in_heap : c.index.result.now < length c.self.inside.heap.items = subst (λ (n : ℕ). n < length c.self.inside.heap.items) (sym c.index.ensures) (c.self.invariant.stored.index.place_in v c.index.result.now in_place) in
        let late = c.if-at-size.false in
        let same = sizes c in
        omega (arith, late, in_heap, same);
  };
  phases = length-set c.self.inside.phase.items (c.args.variable - 1) c.args.positive ∙ c.self.invariant.phases ∙ sym (sizes c);
  order = subst (λ (xs : List ℕ). IsHeapFrom xs c.rise.new.heap.items (c.self.inside.size + 1) 0) c.as_slice.ensures.value c.rise.ensures.heap;
  low = c.self.invariant.low;
}

pub returns : goal.returns
returns c =
    let heap : List ℕ = c.self.inside.heap.items in
    let place : List ℕ = c.self.inside.place.items in
    let size : ℕ = c.self.inside.size in
    let v : ℕ = c.args.variable - 1 in
    let places : length c.args.self.now.places ≡ length place = sym (ap (λ (o : OrderState). length o.places) c.self.view_is) in
    let in_place : v < length place = in_range c.args.variable _ _ c.requires.low c.requires.high places in
    let in_phase : v < length c.self.inside.phase.items = in_range c.args.variable _ _ c.requires.low c.requires.high (places ∙ c.self.invariant.stored.index.sizes ∙ sym c.self.invariant.phases) in
    let i : ℕ = c.index.result.now in
    let at : i ≡ get_or place v 0 = c.index.ensures ∙ get_or_default place v i 0 in_place in
    let in_heap : i < length heap = subst (λ (n : ℕ). n < length heap) (sym c.index.ensures) (c.self.invariant.stored.index.place_in v i in_place) in
    let late : size ≤ i = c.if-at-size.false in
    let in_size : size < length heap = omega arith in
    let next : length c.rise.new.place.items ≡ length place = c.rise.ensures.index.sizes ∙ sizes c ∙ sym c.self.invariant.stored.index.sizes in
    let stands : get_or heap i 0 ≡ v = ap (λ (x : ℕ). get_or heap x 0) at ∙ c.self.invariant.stored.index.there v (subst (λ (n : ℕ). v < n) c.self.invariant.stored.index.sizes in_place) in
    record {
      variables = next ∙ sym places;
      held = λ w h.
          let now : OrderState = record { activity = c.self.inside.activity.items; phases = c.self.inside.phase.items; places = place; size = size } in
          let was : IsHeld now w = subst (λ (o : OrderState). IsHeld o w) (sym c.self.view_is) h in
          let first : get_or place w 0 < size = was.1 in
          let stays : get_or c.swap.new.place.items w 0 ≡ get_or place w 0 =
          ap (λ (xs : List ℕ). get_or xs w 0) c.swap.ensures.place ∙ moved_not heap place i size c.self.invariant.stored.index in_heap in_size w (omega (arith, first, late)) (omega (arith, first)) in
          (subst (λ (n : ℕ). w < n) (sym next) was.0, c.rise.ensures.held w (omega (arith, stays, first)));
      now =
          let there : get_or c.swap.new.place.items v 0 ≡ size =
          ap (λ (x : ℕ). get_or c.swap.new.place.items x 0) (sym stands) ∙ ap (λ (xs : List ℕ). get_or xs (get_or heap i 0) 0) c.swap.ensures.place ∙ moved_there heap place i size c.self.invariant.stored.index in_heap in_size in
          (subst (λ (n : ℕ). v < n) (sym next) in_place, c.rise.ensures.held v (omega (arith, there)));
      activity = ap (λ (o : OrderState). o.activity) c.self.view_is;
      phases = ap (λ (o : OrderState). set o.phases v c.args.positive) c.self.view_is;
      sign = get_or-set_same c.self.inside.phase.items v c.args.positive false in_phase;
    }
