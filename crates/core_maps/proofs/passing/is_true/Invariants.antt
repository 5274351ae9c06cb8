use Rattle.std.proofs.Common.{◌≡◌, false, take}
use Rattle.cnf.specs.Assignment.{value_of}
use Rattle.cnf.specs.Sat.{is_clause_true}
use Rattle.core_maps.proofs.passing.is_true.Given as goal

-- the literals so far are false
abbrev pub invariant-loop-lit : goal.invariant-loop-lit
invariant-loop-lit l = is_clause_true (value_of l.bits) (take l.lit-index l.clause) ≡ false
