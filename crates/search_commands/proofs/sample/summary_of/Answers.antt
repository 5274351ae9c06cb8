use Rattle.search_commands.proofs.SampleLemmas.{summed}
use Rattle.search_commands.proofs.sample.summary_of.Goals as goal

pub returns-clause-summed : goal.returns-clause-summed
returns-clause-summed g c =
    summed c.args.number c.args.clauses c.args.study c.in_ok-found.found.logs c.in_ok-found.found.verdict c.requires.clauses c.in_ok-found.ensures.right (rw c.in_ok-found.ensures.logs c.requires.decision.logs)
