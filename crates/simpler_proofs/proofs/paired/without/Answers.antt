use Rattle.cnf.specs.Fresh.{is_over}
use Rattle.simpler_proofs.specs.Made.{is_pair}
use Rattle.simpler_proofs.proofs.paired.without.Goals as goal

pub invariant_of-pairs-clause-over : goal.invariant_of-pairs-clause-over
invariant_of-pairs-clause-over c = c.in_ok-rest.ensures (is_over c.args.given.formula.now.variables) c.args.given.over

pub invariant_of-pairs-clause-pairs : goal.invariant_of-pairs-clause-pairs
invariant_of-pairs-clause-pairs c = c.in_ok-rest.ensures is_pair c.args.given.pairs
