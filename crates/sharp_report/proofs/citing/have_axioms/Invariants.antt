use Rattle.std.proofs.Common.{◌≡◌, take, true}
use Rattle.std.specs.List.{list_all}
use Rattle.sharp_report.specs.Cited.{has_axiom}
use Rattle.sharp_report.proofs.citing.have_axioms.Given as goal

abbrev pub invariant-loop-place : goal.invariant-loop-place
invariant-loop-place l = list_all (has_axiom l.instances) (take l.place-index l.core) ≡ true
