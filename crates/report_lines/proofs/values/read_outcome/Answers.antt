use Rattle.std.proofs.Common.{arith}
use Rattle.outcomes.proofs.OutcomeCounts.{few_outcomes}
use Rattle.report_lines.proofs.ValueLemmas.{outcome_found, outcome_missing}
use Rattle.report_lines.proofs.values.read_outcome.Goals as goal

pub overflow_cast-result : goal.overflow_cast-result
overflow_cast-result g c =
    let size = g.K.OutcomeKind.size c.args.kind.now in
    omega (arith, c.in-Some.ensures.found.0, few_outcomes size.kind size.alternatives c.kinds_have_sizes.ensures.few_alternatives)

pub returns-in-Some : goal.returns-in-Some
returns-in-Some g c = outcome_found (g.K.OutcomeKind.size c.args.kind.now) c.kinds_have_sizes.ensures c.args.word.now c.in-Some.outcome c.in-Some.ensures.found

pub returns-in-None : goal.returns-in-None
returns-in-None g c = outcome_missing (g.K.OutcomeKind.size c.args.kind.now) c.kinds_have_sizes.ensures c.args.word.now c.in-None.ensures.none
