use Rattle.std.proofs.Common.{◌≡◌, replicate}
use Rattle.propagate.proofs.watchers.Watchers.new.Given as goal

abbrev pub invariant-loop : goal.invariant-loop
invariant-loop l = l.heads.items ≡ replicate l.counter 18446744073709551615
