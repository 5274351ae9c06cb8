use Rattle.cdcl.proofs.Offers.{complete_from_none}
use Rattle.cdcl.proofs.solver.choose.Goals as goal

pub returns-in-None-clause-none : goal.returns-in-None-clause-none
returns-in-None-clause-none c = complete_from_none c.args.trail.now c.choosing.order c.args.trail.now.variables c.in-None.ensures.none c.choosing.invariant.all
