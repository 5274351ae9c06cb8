-- What a plan tells of an instance.
use Rattle.std.proofs.Common.{◌≡◌, sym, ◌∙◌, ap, subst, ℕ, ◌+◌, ◌-◌, ◌<◌, ◌≤◌, ◌++◌, List, length, arith}
use Rattle.std.specs.Int.{bit_at}
use Rattle.vocab.specs.Formula.{body_of}
use Rattle.vocab.specs.Range.{product}
use Rattle.vocab.specs.Limits.{bases_of, instance_count}
use Rattle.vocab.specs.Size.{Extent}
use Rattle.vocab.specs.Tree.{Tree}
use Rattle.meaning.specs.Instances.{instance_values}
use Rattle.meaning.specs.Written.{write_out}
use Rattle.lanes.specs.Lanes.{IsEntry, IsPart, IsPlan, IsShape, lane_values, place_in}
use Rattle.lanes.specs.Marks.{IsTold}
use Rattle.lanes.specs.declared.shapes.Shape.{Shape}
use Rattle.lanes.specs.declared.tables.Entry.{Entry}
use Rattle.lanes.specs.declared.telling.Plan.{Plan}
use Rattle.lanes.proofs.PlaceLaws.{instance_at, instance_here, long_enough, long_plain}

module _ (size : Extent) (sentence : Tree) (plan : Plan) (h : IsPlan size sentence plan) where
  -- what a bit of a word tells at a lane holds at its instance
  here : (P : List ℕ → Type 0) (word n place shift k : ℕ) (env : List ℕ) → n < instance_count size sentence → place ≡ place_in plan.shape.outer (bases_of size sentence) n → shift ≤ place → place + k < plan.group → env ≡ instance_values size sentence n
      → ((shape : Shape) → IsPart size shape plan.part.value (body_of sentence) → shape.outer + length shape.bases ≤ length env → (k : ℕ) → place - shift + k < product shape.bases → bit_at word k ≡ 1 → P (lane_values shape (place - shift) k env))
      → bit_at word (shift + k) ≡ 1 → P (instance_values size sentence (n + k))
  here P word n place shift k env within at le l e tells b =
      let bs = bases_of size sentence in
      let few = h.group in
      let lane : place + k < product plan.shape.bases = omega (arith, l, few) in
      let long : plan.shape.outer + length plan.shape.bases ≤ length env =
      subst (λ (x : List ℕ). plan.shape.outer + length plan.shape.bases ≤ length x) (sym e) (long_plain plan.shape bs h.shape.outer h.shape.bases n) in
      let told = tells plan.shape h.part long (shift + k) (omega (arith, le, lane)) b in
      let same : lane_values plan.shape (place - shift) (shift + k) env ≡ instance_values size sentence (n + k) =
      ap (lane_values plan.shape (place - shift) (shift + k)) e ∙ instance_here plan.shape bs h.shape.outer h.shape.bases n place shift k within at le lane in
      subst P same told

  -- and so at the instance of the bit where it is moved to
  pub moved_here : (P : List ℕ → Type 0) (word number done lanes place shift j : ℕ) (env : List ℕ) → place ≡ place_in plan.shape.outer (bases_of size sentence) (number + done) → shift ≤ place → place + lanes ≤ plan.group → number + done + lanes ≤ instance_count size sentence
      → env ≡ instance_values size sentence (number + done)
      → ((shape : Shape) → IsPart size shape plan.part.value (body_of sentence) → shape.outer + length shape.bases ≤ length env → (k : ℕ) → place - shift + k < product shape.bases → bit_at word k ≡ 1 → P (lane_values shape (place - shift) k env))
      → ((k : ℕ) × (k < lanes) × (j ≡ done + k) × (bit_at word (shift + k) ≡ 1))
      → (number + j < instance_count size sentence) × P (instance_values size sentence (number + j))
  moved_here P word number done lanes place shift j env at le few within e tells m =
      let low = m.1 in
      let inside : number + done + m.0 < instance_count size sentence = omega (arith, low, within) in
      let next : number + j ≡ number + done + m.0 = let e = m.2 in omega (arith, e) in
      subst (λ (n : ℕ). (n < instance_count size sentence) × P (instance_values size sentence n)) (sym next)
      (inside, here P word (number + done) place shift m.0 env (omega (arith, low, within)) at le (omega (arith, low, few)) e tells m.3)

pub is_entry : (size : Extent) (sentence f : Tree) (shape : Shape) (h : IsShape size sentence shape) (n : ℕ) (inner : List ℕ) (e : Entry) → n < instance_count size sentence → e.first ≡ place_in shape.outer (bases_of size sentence) n → e.values ≡ instance_values size sentence n ++ inner
    → ((j : ℕ) → IsTold e.marks j (write_out size f (instance_values size sentence (n + j) ++ inner))) → IsEntry size shape f e
is_entry size sentence f shape h n inner e within at v told = record {
  long = subst (λ (x : List ℕ). shape.outer + length shape.bases ≤ length x) (sym v) (long_enough shape (bases_of size sentence) h.outer h.bases n inner);
  told = λ k l.
      let bs = bases_of size sentence in
      let same : lane_values shape e.first k e.values ≡ instance_values size sentence (n + k) ++ inner =
      ap (λ x. lane_values shape x k e.values) at ∙ ap (lane_values shape (place_in shape.outer bs n) k) v ∙ instance_at shape bs h.outer h.bases n k inner within (subst (λ x. x + k < product shape.bases) at l) in
      subst (λ x. IsTold e.marks k (write_out size f x)) (sym same) (told k);
}
