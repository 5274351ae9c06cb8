use Rattle.std.proofs.Common.{◌≡◌, ◌≤◌, length}
use Rattle.cnf.specs.Sat.{Clause}
use Rattle.cdcl.specs.Analysis.{RootLeads}
use Rattle.cdcl.proofs.analysis.trace_root.Given as goal

abbrev pub invariant-tracing : goal.invariant-tracing
invariant-tracing l = record {
  variables : length l.seen ≡ l.trail.variables;
  place : l.place ≤ length l.trail.entries;
  leads : (clause : Clause) → RootLeads l.trail (length l.trail.entries) l.fn.seen clause l.fn.hints.items → RootLeads l.trail l.place l.seen clause l.hints.items;
}

abbrev pub decreases-tracing : goal.decreases-tracing
decreases-tracing l = l.place
