use Rattle.simpler_proofs.proofs.Reordering.{simpler_reordered}
use Rattle.simpler_proofs.proofs.simplifying.simplify.Goals as goal

pub returns-in_ok-last-in-Some-clause-simpler : goal.returns-in_ok-last-in-Some-clause-simpler
returns-in_ok-last-in-Some-clause-simpler c =
    simpler_reordered c.args.clauses.now.clauses c.args.given.now c.in-Some.made c.in_ok-last-in-Some.last c.in_ok-last-in-Some.ensures.reordered (rw c.in-Some.is at c.in_ok-chosen.ensures.simpler)
