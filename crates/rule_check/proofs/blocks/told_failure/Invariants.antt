use Rattle.std.proofs.Common.{◌-◌, ◌≤◌}
use Rattle.meaning.specs.Instances.{AreInstancesTrue}
use Rattle.rule_check.proofs.blocks.told_failure.Given as goal

-- the instances so far are true
abbrev pub invariant-loop-number : goal.invariant-loop-number
invariant-loop-number g l = record {
  after : l.round.from ≤ l.number;
  true : AreInstancesTrue (g.K.OutcomeKind.size l.round.trial.now.kind.now) l.round.trial.now.table.now l.round.trial.now.named.now.sentence l.round.from l.number;
}

abbrev pub decreases-loop-number : goal.decreases-loop-number
decreases-loop-number g l = l.round.to - l.number
