use Rattle.std.proofs.Common.{◌≡◌, ◌≤◌, length}
use Rattle.simpler_proofs.proofs.reasons.MarkedTrail.reasons.Given as goal

abbrev pub invariant-tracing : goal.invariant-tracing
invariant-tracing l = record {
  same : l.self.trail ≡ l.fn.self.trail;
  place : l.place ≤ length l.self.trail.entries;
}

abbrev pub decreases-tracing : goal.decreases-tracing
decreases-tracing l = l.place
