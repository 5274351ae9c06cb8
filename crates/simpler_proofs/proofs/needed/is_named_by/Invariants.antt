use Rattle.std.proofs.Common.{◌≡◌, length}
use Rattle.simpler_proofs.proofs.needed.is_named_by.Given as goal

abbrev pub invariant-loop-k : goal.invariant-loop-k
invariant-loop-k l = l.k-end ≡ length l.hints
