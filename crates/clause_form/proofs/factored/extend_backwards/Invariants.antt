use Rattle.std.proofs.Common.{◌≡◌, ◌++◌, ◌≤◌, drop, reverse, length}
use Rattle.clause_form.proofs.factored.extend_backwards.Given as goal

abbrev pub invariant-loop-k : goal.invariant-loop-k
invariant-loop-k l = (l.k ≤ length l.more) × (l.row.items ≡ l.fn.row.items ++ reverse (drop l.k l.more))
