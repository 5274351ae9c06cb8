use Rattle.std.proofs.Common.{◌≡◌, ◌≤◌, ◌<◌, ℕ}
use Rattle.std.specs.Prelude.{slice_index_or}
use Rattle.propagate.specs.declared.entry.Entry.{Entry}
use Rattle.propagate.proofs.choice.last_false.Given as goal

abbrev pub invariant-walking : goal.invariant-walking
invariant-walking l = record {
  most : l.place ≤ l.visited;
  top : (j : ℕ) (d : Entry) → l.place ≤ j → j < l.visited → (slice_index_or l.assignment.entries j d).level ≡ l.assignment.level;
}

abbrev pub decreases-walking : goal.decreases-walking
decreases-walking l = l.place
