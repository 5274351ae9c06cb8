use Rattle.std.proofs.Common.{◌+◌, ◌≤◌, arith}
use Rattle.rule_check.proofs.PieceLemmas.{true_beyond, first_beyond}
use Rattle.rule_check.proofs.blocks.told_failure.Goals as goal

pub returns-in-Some : goal.returns-in-Some
returns-in-Some g c =
    let round = c.args.round.now in
    let within : c.loop-number.number + c.min-lanes.result ≤ round.to = omega arith in
    first_beyond (g.K.OutcomeKind.size round.trial.now.kind.now) round.trial.now.table.now round.trial.now.named.now round.from c.loop-number.number (c.loop-number.number + c.min-lanes.result) round.to c.in-Some.instance c.loop-number.invariant.after within
    c.loop-number.invariant.true (rw c.in-Some.is at c.block_failure.ensures)

pub loop-number-preserved : goal.loop-number-preserved
loop-number-preserved g c =
    let round = c.args.round.now in
    record {
      after = omega (arith, c.loop-number.invariant.after);
      true = true_beyond (g.K.OutcomeKind.size round.trial.now.kind.now) round.trial.now.table.now round.trial.now.named.now round.from c.loop-number.number (c.loop-number.number + c.min-lanes.result) c.loop-number.invariant.true (rw c.in_default.is at c.block_failure.ensures);
    }

pub returns : goal.returns
returns g c = λ k low high. c.loop-number.invariant.true k low (omega (arith, high, c.loop-number-test.false))
