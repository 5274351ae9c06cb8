use Rattle.cnf.specs.Fresh.{is_over}
use Rattle.simpler_proofs.specs.Made.{is_single}
use Rattle.simpler_proofs.proofs.rebuilding.add_single.Goals as goal

pub invariant_of-singles-clause-over : goal.invariant_of-singles-clause-over
invariant_of-singles-clause-over c = c.add_line.ensures.passes (is_over c.args.singles.now.variables) c.in_ok-clause.ensures.over c.args.singles.now.over

pub invariant_of-singles-clause-single : goal.invariant_of-singles-clause-single
invariant_of-singles-clause-single c = c.add_line.ensures.passes is_single c.in_ok-clause.ensures.single c.args.singles.now.single
