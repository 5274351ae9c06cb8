use Rattle.std.proofs.Common.{◌≡◌}
use Rattle.cnf.specs.Assignment.{value_of}
use Rattle.rule_lists.specs.Finding.{denial}
use Rattle.rule_lists.proofs.denying.denial_of.Given as goal

-- the clause so far denies the variables so far
abbrev pub invariant-loop-i : goal.invariant-loop-i
invariant-loop-i l = l.clause.items ≡ denial (value_of l.bits) l.i
