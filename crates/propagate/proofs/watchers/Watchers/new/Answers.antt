use Rattle.std.proofs.Common.{arith, ℕ, replicate}
use Rattle.std.proofs.lemmas.List.{get_or-replicate, length-replicate}
use Rattle.propagate.proofs.ChainLemmas.{nothing_linked}
use Rattle.propagate.proofs.watchers.Watchers.new.Goals as goal

pub invariant_of-result : goal.invariant_of-result
invariant_of-result c = rw (c.new.ensures.items, c.new-2.ensures.items, c.loop.invariant) (nothing_linked (replicate c.loop.counter 18446744073709551615) (λ k lt. get_or-replicate c.loop.counter k 18446744073709551615 0 (omega (arith, length-replicate {A = ℕ} c.loop.counter 18446744073709551615))))
