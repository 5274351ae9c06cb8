use Rattle.std.proofs.Common.{length, ◌≡◌}
use Rattle.propagate.proofs.Visits.{ForcingUnwatched}
use Rattle.propagate.proofs.visiting.force_unwatched.Given as goal

abbrev pub invariant-loop-k : goal.invariant-loop-k
invariant-loop-k l = record {
  state : ForcingUnwatched l.fn.assignment l.assignment l.watchers l.visited l.from l.k;
  end : l.k-end ≡ length l.assignment.clauses;
}
