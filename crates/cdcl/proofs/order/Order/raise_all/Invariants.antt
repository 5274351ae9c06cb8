use Rattle.std.proofs.Common.{◌≡◌, ℕ, length, take}
use Rattle.cdcl.specs.Order.{IsHeld, raised_by}
use Rattle.cdcl.proofs.order.Order.raise_all.Given as goal

abbrev pub invariant-loop-lit : goal.invariant-loop-lit
invariant-loop-lit l = record {
  size : length l.self.places ≡ length l.fn.self.places;
  held : (w : ℕ) → IsHeld l.fn.self w → IsHeld l.self w;
  activity : l.self.activity ≡ raised_by l.fn.self.activity (take l.lit-index l.clause);
}
