-- The parts of a solver agree again after a step.
use Rattle.std.proofs.Common.{arith, ap, sym, subst, ◌≡◌, ◌+◌, ◌∙◌, ℕ, Bool, List, length, false}
use Rattle.cnf.specs.Sat.{Clause}
use Rattle.propagate.specs.Values.{value_in}
use Rattle.propagate.specs.TrailState.{TrailState, IsTrail, IsLearnable, Propagates, known, learned}
use Rattle.cdcl.specs.Order.{OrderState}
use Rattle.cdcl.specs.Search.{RestsBelow, IsComplete}
use Rattle.cdcl.specs.Solver.{IsSolver}
use Rattle.cdcl.proofs.Offers.{HasAll-propagate}
use Rattle.cdcl.proofs.Rests.{RestsBelow-propagate, RestsBelow-learn}

-- after propagation
pub IsSolver-propagate : (t new : TrailState) (o : OrderState) (seen : List Bool) (n : ℕ) → IsSolver t o seen n → IsTrail new → Propagates t new → IsSolver new o seen n
IsSolver-propagate t new o seen n h form grows = record {
  form = form;
  rests = RestsBelow-propagate t new h.form form grows h.rests;
  all = HasAll-propagate t new o n grows h.all;
  marks = h.marks;
  over = grows.variables ∙ h.over;
  few = h.few;
}

-- where every variable has a value, any order will do
pub IsSolver-complete : (t : TrailState) (o order : OrderState) (seen : List Bool) (n : ℕ) → IsSolver t o seen n → IsComplete t t.variables → length order.places ≡ n → IsSolver t order seen n
IsSolver-complete t o order seen n h complete size = record {
  form = h.form;
  rests = h.rests;
  all = record { variables = size; held = λ w lt none. absurd (complete (w + 1) (omega arith) (omega (arith, lt, h.over)) none) };
  marks = h.marks;
  over = h.over;
  few = h.few;
}

-- after a clause is learned
pub IsSolver-learn : (t new : TrailState) (clause : Clause) (o : OrderState) (seen : List Bool) (n : ℕ) → IsSolver t o seen n → IsLearnable t clause → IsTrail new → new ≡ record (learned t clause) { watches = new.watches } → IsSolver new o seen n
IsSolver-learn t new clause o seen n h learnable form is = record {
  form = form;
  rests = subst RestsBelow (sym is) (RestsBelow-learn t clause false new.watches h.form learnable h.rests);
  all = record { variables = h.all.variables; held = λ w lt none. h.all.held w lt (ap (λ (x : TrailState). value_in (known x) (w + 1)) (sym is) ∙ none) };
  marks = h.marks;
  over = ap (λ (x : TrailState). x.variables) is ∙ h.over;
  few = h.few;
}
