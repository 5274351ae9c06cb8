use Rattle.std.proofs.Common.{reverse}
use Rattle.cnf.specs.Sat.{opposite_lit}
use Rattle.cdcl.proofs.Rests.{JumpsTo-highest}
use Rattle.cdcl.proofs.analysis.asserting_clause.Goals as goal

pub returns-clause-asserting : goal.returns-clause-asserting
returns-clause-asserting c = rw (c.in_ok-push.ensures.items, c.opposite.ensures, c.reverse.ensures.items) c.requires.asserting

pub returns-clause-jumps : goal.returns-clause-jumps
returns-clause-jumps c =
    rw (c.in_ok-push.ensures.items, c.opposite.ensures) (JumpsTo-highest c.args.trail.now c.args.lower.items (opposite_lit c.args.lit) (reverse c.args.hints.items) c.highest-level.result c.requires.trail c.requires.asserting
    c.requires.below c.highest-level.ensures.below (rw c.as_slice.ensures.value at c.highest-level.ensures.reached) (rw c.as_slice.ensures.value at c.highest-level.ensures.most))
