use Rattle.std.proofs.Common.{◌≡◌}
use Rattle.simpler_proofs.proofs.failed_literals.literals_in_turn.Given as goal

abbrev pub invariant-loop-place : goal.invariant-loop-place
invariant-loop-place l = record {
  end : l.place-end ≡ l.formula.variables;
}
