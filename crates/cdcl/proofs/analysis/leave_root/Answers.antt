use Rattle.cnf.specs.Sat.{opposite_lit}
use Rattle.cdcl.proofs.Roots.{IsAsserting-kept}
use Rattle.cdcl.proofs.analysis.leave_root.Goals as goal

pub returns-clause-asserting : goal.returns-clause-asserting
returns-clause-asserting c =
    IsAsserting-kept c.args.trail.now c.args.lower.now c.in_ok-kept.kept.items (opposite_lit c.args.lit) c.args.hints.now.items c.trace_root.new.hints.items c.above_root.new.seen c.trace_root.new.seen
    c.requires.asserting c.requires.below c.in_ok-kept.ensures.below c.in_ok-kept.ensures.fails c.in_ok-trace_root.ensures.leads
