use Rattle.std.proofs.Common.{◌-◌, ◌≤◌}
use Rattle.meaning.specs.Instances.{AreInstancesTrue}
use Rattle.rule_check.proofs.check.least_failure.Given as goal

-- the instances so far are true
abbrev pub invariant-loop-from : goal.invariant-loop-from
invariant-loop-from g l = record {
  after : l.all.from ≤ l.from;
  true : AreInstancesTrue (g.K.OutcomeKind.size l.all.trial.now.kind.now) l.all.trial.now.table.now l.all.trial.now.named.now.sentence l.all.from l.from;
}

abbrev pub decreases-loop-from : goal.decreases-loop-from
decreases-loop-from g l = l.all.to - l.from
