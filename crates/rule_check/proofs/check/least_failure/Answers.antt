use Rattle.std.proofs.Common.{◌+◌, ◌≤◌, arith}
use Rattle.rule_check.proofs.PieceLemmas.{true_beyond, first_beyond}
use Rattle.rule_check.proofs.check.least_failure.Goals as goal

pub returns-in-Some : goal.returns-in-Some
returns-in-Some g c =
    let all = c.args.all.now in
    let within : c.loop-from.from + c.min.result ≤ all.to = omega arith in
    first_beyond (g.K.OutcomeKind.size all.trial.now.kind.now) all.trial.now.table.now all.trial.now.named.now all.from c.loop-from.from (c.loop-from.from + c.min.result) all.to c.in-Some.instance c.loop-from.invariant.after within c.loop-from.invariant.true
    (rw c.in-Some.is at c.in_ok-instance.ensures)

pub loop-from-preserved : goal.loop-from-preserved
loop-from-preserved g c =
    let all = c.args.all.now in
    record {
      after = omega (arith, c.loop-from.invariant.after);
      true = true_beyond (g.K.OutcomeKind.size all.trial.now.kind.now) all.trial.now.table.now all.trial.now.named.now all.from c.loop-from.from (c.loop-from.from + c.min.result) c.loop-from.invariant.true (rw c.in_default.is at c.in_ok-instance.ensures);
    }

pub returns : goal.returns
returns g c = λ k low high. c.loop-from.invariant.true k low (omega (arith, high, c.loop-from-test.false))
