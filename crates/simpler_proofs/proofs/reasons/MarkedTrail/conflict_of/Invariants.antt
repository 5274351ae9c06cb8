use Rattle.std.proofs.Common.{◌≡◌, true}
use Rattle.simpler_proofs.proofs.reasons.MarkedTrail.conflict_of.Given as goal

abbrev pub invariant-loop-lit : goal.invariant-loop-lit
invariant-loop-lit l = record {
  propagated : l.self.trail.propagated ≡ true;
  variables : l.self.trail.variables ≡ l.fn.self.trail.variables;
  clauses : l.self.trail.clauses ≡ l.fn.self.trail.clauses;
}
