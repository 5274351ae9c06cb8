use Rattle.std.proofs.Common.{◌≡◌, ◌≤◌, Bool, length}
use Rattle.std.specs.Prelude.{IsTrue}
use Rattle.std.specs.List.{list_all}
use Rattle.cnf.specs.Signed.{Signed}
use Rattle.simpler_proofs.proofs.reasons.MarkedTrail.marked_of.Given as goal

abbrev pub invariant-loop-lit : goal.invariant-loop-lit
invariant-loop-lit l = record {
  trail : l.self.trail ≡ l.fn.self.trail;
  part : (test : Signed → Bool) → IsTrue (list_all test l.clause) → IsTrue (list_all test l.marked);
  few : length l.marked ≤ l.lit-index;
}
